use denote.Param.Send.{sendable}
use Rattle.std.proofs.Crossing as std
use Rattle.tests_threads.proofs.Crossing.{crosses}
use Rattle.tests_threads.proofs.looks.see_action.Goals as goal

pub join-is_ok-requires-send-F : goal.join-is_ok-requires-send-F
join-is_ok-requires-send-F g c κs within = search (crosses, std.crosses, sendable) depth 60
