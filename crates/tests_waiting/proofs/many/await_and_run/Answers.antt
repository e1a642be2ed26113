use denote.Param.Send.{sendable}
use Rattle.std.proofs.Crossing as std
use Rattle.ref_world.proofs.Crossing.{front_send}
use Rattle.tests_threads.proofs.Crossing.{crosses}
use Rattle.tests_waiting.proofs.many.await_and_run.Goals as goal

pub join-requires-send-F : goal.join-requires-send-F
join-requires-send-F g c κs within = search (front_send, crosses, std.crosses, sendable) depth 60
