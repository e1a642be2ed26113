use Rattle.std.proofs.Common.{inr, sym}
use Rattle.ref_program.proofs.workers.Worker.transact_as.Goals as goal

pub returns-in-Err-clause-fault : goal.returns-in-Err-clause-fault
returns-in-Err-clause-fault g c = rw (sym c.self.view_is, ← c.in-Some.ensures.0) (inr c.in-Err.ensures.fault)
