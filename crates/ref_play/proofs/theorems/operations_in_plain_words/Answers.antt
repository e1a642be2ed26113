use Rattle.ref_play.proofs.PlainOperations.{operations_mean}
use Rattle.ref_play.proofs.theorems.operations_in_plain_words.Goals as goal

pub returns : goal.returns
returns g c = operations_mean g.M.Meaning.means
