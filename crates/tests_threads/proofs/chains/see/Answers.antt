use denote.Param.Send.{sendable}
use Rattle.std.proofs.Crossing as std
use Rattle.tests_threads.proofs.Crossing.{shared_crosses}
use Rattle.tests_threads.proofs.chains.see.Goals as goal

pub join-ran-requires-send-F : goal.join-ran-requires-send-F
join-ran-requires-send-F g c κs within = search (shared_crosses, std.crosses, sendable) depth 60

pub join-ran-requires-send-A : goal.join-ran-requires-send-A
join-ran-requires-send-A g c κs within = search (shared_crosses, std.crosses, sendable) depth 60
