use denote.Param.Send.{sendable}
use Rattle.std.proofs.Crossing as std
use Rattle.tests_threads.proofs.Crossing.{shared_crosses}
use Rattle.tests_threads.proofs.chains.four_pools.Goals as goal

pub join-one-requires-send-F : goal.join-one-requires-send-F
join-one-requires-send-F g c κs within = search (shared_crosses, std.crosses, sendable) depth 60

pub join-one-requires-send-A : goal.join-one-requires-send-A
join-one-requires-send-A g c κs within = search (shared_crosses, std.crosses, sendable) depth 60
