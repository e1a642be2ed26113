use Rattle.ref_play.proofs.PlainOperations.{tx_means}
use Rattle.ref_play.proofs.theorems.transactions_in_plain_words.Goals as goal

pub returns : goal.returns
returns g c = tx_means g.M.Meaning.means
