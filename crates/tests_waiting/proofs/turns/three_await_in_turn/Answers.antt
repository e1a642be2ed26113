use denote.Param.Send.{sendable}
use Rattle.std.proofs.Crossing as std
use Rattle.tests_threads.proofs.Crossing.{crosses}
use Rattle.tests_waiting.proofs.turns.three_await_in_turn.Goals as goal

pub join-went-requires-send-F : goal.join-went-requires-send-F
join-went-requires-send-F g c κs within = search (crosses, std.crosses, sendable) depth 60
