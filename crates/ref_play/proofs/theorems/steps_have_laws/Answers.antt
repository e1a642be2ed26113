use Rattle.ref_play.proofs.Laws.{steps_have_laws}
use Rattle.ref_play.proofs.theorems.steps_have_laws.Goals as goal

pub returns : goal.returns
returns g c = steps_have_laws g.M.Meaning.means g.M.Meaning.accepts
