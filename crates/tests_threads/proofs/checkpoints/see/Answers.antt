use denote.Param.Send.{sendable}
use Rattle.std.proofs.Crossing as std
use Rattle.ref_world.proofs.Crossing.{front_send}
use Rattle.tests_threads.proofs.Crossing.{shared_crosses}
use Rattle.tests_threads.proofs.checkpoints.see.Goals as goal

pub join-answers-requires-send-F : goal.join-answers-requires-send-F
join-answers-requires-send-F g c κs within = search (front_send, shared_crosses, std.crosses, sendable) depth 60
