use Rattle.ref_play.proofs.PlainFaults.{refusals_say_why}
use Rattle.ref_play.proofs.theorems.refusals_say_why.Goals as goal

pub returns : goal.returns
returns g c = refusals_say_why g.M.Meaning.means g.M.Meaning.accepts
