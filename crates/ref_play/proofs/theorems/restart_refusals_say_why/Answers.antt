use Rattle.ref_play.proofs.PlainAgents.{restart_refusals}
use Rattle.ref_play.proofs.theorems.restart_refusals_say_why.Goals as goal

pub returns : goal.returns
returns g c = restart_refusals g.M.Meaning.accepts
