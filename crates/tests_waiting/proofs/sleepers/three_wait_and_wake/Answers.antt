use denote.Param.Send.{IsSync, sendable}
use denote.Param.SendFields.{declared_sync}
use Rattle.std.proofs.Crossing as std
use Rattle.tests_threads.proofs.Crossing.{crosses, flags_sync}
use Rattle.tests_waiting.specs.contracts.sleepers.ThreeFlags as ThreeFlags
use Rattle.tests_waiting.proofs.sleepers.three_wait_and_wake.Goals as goal

three_flags_sync : IsSync ThreeFlags.the_row
three_flags_sync = declared_sync ThreeFlags.the_type (flags_sync, (flags_sync, (flags_sync, tt)))

pub join-woke-requires-send-F : goal.join-woke-requires-send-F
join-woke-requires-send-F g c κs within = search (three_flags_sync, crosses, std.crosses, sendable) depth 60
