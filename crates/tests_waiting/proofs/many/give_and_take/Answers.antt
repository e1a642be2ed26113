use denote.Param.Send.{sendable}
use Rattle.std.proofs.Crossing as std
use Rattle.tests_threads.proofs.Crossing.{crosses}
use Rattle.tests_waiting.proofs.many.give_and_take.Goals as goal

pub join-both-requires-send-F : goal.join-both-requires-send-F
join-both-requires-send-F g c κs within = search (crosses, std.crosses, sendable) depth 60

pub join-both-requires-send-A : goal.join-both-requires-send-A
join-both-requires-send-A g c κs within = search (crosses, std.crosses, sendable) depth 60
