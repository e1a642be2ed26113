use Rattle.ref_play.proofs.PlainOperations.{sends_in_tx_mean}
use Rattle.ref_play.proofs.theorems.sends_in_tx_in_plain_words.Goals as goal

pub returns : goal.returns
returns c = sends_in_tx_mean
