use denote.Param.Send.{sendable}
use Rattle.std.proofs.Crossing as std
use Rattle.tests_threads.proofs.Crossing.{crosses}
use Rattle.tests_waiting.proofs.turns.three_await.Goals as goal

pub join-third-requires-send-F : goal.join-third-requires-send-F
join-third-requires-send-F g c κs within = search (crosses, std.crosses, sendable) depth 60
