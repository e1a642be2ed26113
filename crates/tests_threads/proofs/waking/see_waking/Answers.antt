use denote.Param.Send.{sendable}
use Rattle.std.proofs.Crossing as std
use Rattle.tests_threads.proofs.Crossing.{crosses}
use Rattle.tests_threads.proofs.waking.see_waking.Goals as goal

pub join-woke-requires-send-F : goal.join-woke-requires-send-F
join-woke-requires-send-F g c κs within = search (crosses, std.crosses, sendable) depth 60
