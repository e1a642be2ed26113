use Rattle.ref_play.proofs.PlainOperations.{inner_means}
use Rattle.ref_play.proofs.theorems.inner_values_in_plain_words.Goals as goal

pub returns : goal.returns
returns g c = inner_means g.M.Meaning.means
