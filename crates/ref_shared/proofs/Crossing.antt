-- What of a shared world crosses threads, as a set for `search`: it may be lent to them, and shares may be given to them. A search compares
-- its goal with each fact of a set and unfolds both, so views and whole worlds aren't in it: a program that gives one to a thread adds
-- `seen_send` or `world_send` of ref_world.
use denote.RattleType.{RattleType}
use denote.Param.Send.{IsSend, IsSync, sendable}
use denote.Param.SendFields.{declared_send, declared_sync}
use Rattle.std.proofs.Crossing.{crosses as std_crosses}
use Rattle.std.proofs.MapsCrossing.{crosses as map_crosses}
use Rattle.ref_world.specs.declared.names.Books as Books
use Rattle.ref_fun.specs.declared.meanings.Meaning as Meaning
use Rattle.ref_world.proofs.Crossing.{booked_send, share_send}
use Rattle.ref_shared.specs.contracts.shared.Held as Held
use Rattle.ref_shared.specs.contracts.shared.Shared as Shared
use Rattle.ref_shared.specs.contracts.waiters.Awaited as Awaited
use Rattle.ref_shared.specs.contracts.waiters.Waiters as Waiters

awaited_send : IsSend Awaited.the_row
awaited_send = declared_send Awaited.the_type (search (std_crosses, sendable) depth 60, (search (std_crosses, sendable) depth 60, (search (std_crosses, sendable) depth 60, tt)))

waiters_send : IsSend Waiters.the_row
waiters_send = declared_send Waiters.the_type (search (std_crosses, sendable) depth 60, (search (awaited_send, map_crosses, std_crosses, sendable) depth 60, tt))

module _ (M L : RattleType) (gM : Meaning.Ghosts M.Denot) (gL : Books.Ghosts L.Denot) where
  held_send : IsSend (Held.the_row M L gM gL)
  held_send = declared_send (Held.the_type M L gM gL) (booked_send L gL M gM, (search (std_crosses, sendable) depth 60, (waiters_send, tt)))

  pub shared_sync : IsSync (Shared.the_row M L gM gL)
  shared_sync = declared_sync (Shared.the_type M L gM gL) (search (held_send, std_crosses, sendable) depth 60, (search (std_crosses, sendable) depth 60, (search (std_crosses, sendable) depth 60, tt)))

pub ruleset crosses = (share_send, shared_sync)
