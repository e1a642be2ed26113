use Rattle.ref_play.proofs.PlainAgents.{send_refusals}
use Rattle.ref_play.proofs.theorems.send_refusals_say_why.Goals as goal

pub returns : goal.returns
returns c = send_refusals
