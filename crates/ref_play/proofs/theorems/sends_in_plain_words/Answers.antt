use Rattle.ref_play.proofs.PlainSends.{sends_mean}
use Rattle.ref_play.proofs.theorems.sends_in_plain_words.Goals as goal

pub returns : goal.returns
returns c = sends_mean
