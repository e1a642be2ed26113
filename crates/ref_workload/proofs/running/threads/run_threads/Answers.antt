use denote.Param.Send.{sendable}
use Rattle.ref_workload.proofs.running.threads.run_threads.Goals as goal

-- src/running/threads.rt:42:9
-- what the closure asks are bounds of the types
pub scoped-ended-requires : goal.scoped-ended-requires
scoped-ended-requires g c = search (sendable) depth 200
