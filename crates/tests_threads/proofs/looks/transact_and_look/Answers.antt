use denote.Param.Send.{sendable}
use Rattle.std.proofs.Crossing as std
use Rattle.tests_threads.proofs.Crossing.{crosses}
use Rattle.tests_threads.proofs.looks.transact_and_look.Goals as goal

pub join-mine-requires-send-F : goal.join-mine-requires-send-F
join-mine-requires-send-F g c κs within = search (crosses, std.crosses, sendable) depth 60

pub join-mine-requires-send-A : goal.join-mine-requires-send-A
join-mine-requires-send-A g c κs within = search (crosses, std.crosses, sendable) depth 60
