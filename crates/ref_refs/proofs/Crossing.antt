-- The refs now may go to another thread.
use denote.Param.Send.{IsSend, sendable, view_send}
use denote.Param.SendFields.{declared_send}
use Rattle.std.proofs.Crossing.{crosses}
use Rattle.ref_refs.proofs.late.Late.TheLaws.TheKnot as knot
use Rattle.ref_refs.specs.contracts.current.Refs as Refs
use Rattle.ref_refs.specs.contracts.current.Refs.TheInside as InRefs
use Rattle.ref_refs.specs.contracts.late.Item as Item
use Rattle.ref_refs.specs.contracts.late.Late as Late
use Rattle.ref_tx.specs.contracts.snapshots.Snapshot as Snapshot
use Rattle.ref_tx.specs.contracts.snapshots.Version as Version

ruleset plain = (crosses, knot.crosses, sendable)

module _ (snapshot : IsSend Snapshot.the_row) (version : IsSend Version.the_row) where
  item_send : IsSend Item.the_row
  item_send = declared_send Item.the_type (search plain depth 60, (version, tt))

  late_send : IsSend Late.the_row
  late_send = search (item_send, plain) depth 60

  pub refs_send : IsSend Refs.the_row
  refs_send = view_send _ _ _ _ _ (declared_send InRefs.the_type (snapshot, (late_send, tt)))
