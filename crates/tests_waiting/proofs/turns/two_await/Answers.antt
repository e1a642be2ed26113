use denote.Param.Send.{sendable}
use Rattle.std.proofs.Crossing as std
use Rattle.tests_threads.proofs.Crossing.{crosses}
use Rattle.tests_waiting.proofs.turns.two_await.Goals as goal

pub join-first-requires-send-F : goal.join-first-requires-send-F
join-first-requires-send-F g c κs within = search (crosses, std.crosses, sendable) depth 60
