use denote.Param.Send.{sendable}
use Rattle.std.proofs.Crossing as std
use Rattle.tests_threads.proofs.Crossing.{crosses}
use Rattle.tests_waiting.proofs.sleepers.two_wait.Goals as goal

pub join-awaited-requires-send-F : goal.join-awaited-requires-send-F
join-awaited-requires-send-F g c κs within = search (crosses, std.crosses, sendable) depth 60
