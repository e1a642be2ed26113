-- What of these tests crosses threads, as a set for `search`.
use denote.Param.Send.{IsSend, IsSync, sendable}
use denote.Param.SendFields.{declared_sync, variants_send}
use Rattle.std.proofs.Crossing as std
use Rattle.ref_shared.proofs.Crossing.{shared_sync}
use Rattle.ref_world.proofs.Crossing.{share_send}
use Rattle.ref_shared.specs.contracts.gates.Spot as Spot
use Rattle.tests_threads.specs.contracts.flags.Flags as Flags
use Rattle.tests_threads.specs.contracts.flags.Place as Place

pub flags_sync : IsSync Flags.the_row
flags_sync = declared_sync Flags.the_type (
  search (std.crosses, sendable) depth 60,
  (
    search (std.crosses, sendable) depth 60,
    (search (std.crosses, sendable) depth 60, (search (std.crosses, sendable) depth 60, tt)),
  ),
)

spot_send : IsSend Spot.the_row
spot_send = variants_send Spot.enum (tt, (tt, (tt, (tt, (tt, tt)))))

pub place_send : IsSend Place.the_row
place_send = variants_send Place.enum ((spot_send, tt), (tt, (tt, (tt, tt))))

-- What is lent and given to the threads of a shared world. The set of ref_shared also has worlds and views, which cost a search more
-- than it may take.
pub ruleset shared_crosses = (share_send, shared_sync)

pub ruleset crosses = (flags_sync, place_send, shared_crosses)
