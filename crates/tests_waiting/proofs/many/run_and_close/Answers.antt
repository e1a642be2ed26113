use denote.Param.Send.{sendable}
use Rattle.std.proofs.Crossing as std
use Rattle.tests_threads.proofs.Crossing.{crosses}
use Rattle.tests_waiting.proofs.many.run_and_close.Goals as goal

pub join-ran-requires-send-F : goal.join-ran-requires-send-F
join-ran-requires-send-F g c κs within = search (crosses, std.crosses, sendable) depth 60
