use denote.Param.Send.{sendable}
use Rattle.std.proofs.Crossing as std
use Rattle.tests_threads.proofs.Crossing.{shared_crosses}
use Rattle.tests_threads.proofs.stress.see.Goals as goal

pub join-actions-requires-send-F : goal.join-actions-requires-send-F
join-actions-requires-send-F g c κs within = search (shared_crosses, std.crosses, sendable) depth 60

pub join-actions-requires-send-A : goal.join-actions-requires-send-A
join-actions-requires-send-A g c κs within = search (shared_crosses, std.crosses, sendable) depth 60
