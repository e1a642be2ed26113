use denote.Param.Send.{sendable}
use Rattle.std.proofs.Crossing as std
use Rattle.ref_program.proofs.Crossing.{hall_sync}
use Rattle.ref_program.proofs.running.start_helpers.Goals as goal

pub spawn-requires-send-F : goal.spawn-requires-send-F
spawn-requires-send-F g c κs within = search (hall_sync, std.crosses, sendable) depth 60
