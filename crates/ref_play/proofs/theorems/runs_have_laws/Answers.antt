use Rattle.ref_play.proofs.Laws.{runs_have_laws}
use Rattle.ref_play.proofs.theorems.runs_have_laws.Goals as goal

pub returns : goal.returns
returns g c = runs_have_laws g.M.Meaning.means g.M.Meaning.accepts
