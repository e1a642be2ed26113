use Rattle.ref_play.proofs.PlainOperations.{requirements_mean}
use Rattle.ref_play.proofs.theorems.requirements_in_plain_words.Goals as goal

pub returns : goal.returns
returns g c = requirements_mean g.M.Meaning.means g.M.Meaning.accepts
