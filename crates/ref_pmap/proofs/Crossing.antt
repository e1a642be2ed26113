-- Values by number may go to another thread where each value may go there, and be lent to one.
use denote.RattleType.{RattleType}
use denote.Param.Send.{IsSend, IsSync, sendable, view_send, array_send, array_sync}
use denote.Param.SendFields.{declared_send, declared_sync}
use Rattle.std.proofs.Crossing.{crosses, Arc-send, Arc-sync}
use Rattle.ref_pmap.proofs.blocks.Block.TheSendSync as blocks
use Rattle.ref_pmap.proofs.trees.Tree.TheLaws.TheKnot as knot
use Rattle.ref_pmap.specs.contracts.trees.Entry as Entry
use Rattle.ref_pmap.specs.contracts.trees.Tree as Tree
use Rattle.ref_pmap.specs.contracts.maps.PMap as PMap
use Rattle.ref_pmap.specs.contracts.maps.PMap.TheInside as InPMap
use Rattle.ref_pmap.specs.contracts.numbered.Numbered as Numbered
use Rattle.ref_pmap.specs.contracts.numbered.Numbered.TheInside as InNumbered

ruleset plain = (crosses, knot.crosses, sendable)

module _ (V : RattleType) (send : IsSend V) (sync : IsSync V) where
  entry_send : IsSend (Entry.the_row V)
  entry_send = declared_send (Entry.the_type V) (search plain depth 60, (search (send, plain) depth 60, tt))

  entry_sync : IsSync (Entry.the_row V)
  entry_sync = declared_sync (Entry.the_type V) (search plain depth 60, (search (sync, plain) depth 60, tt))

  tree_send : IsSend (Tree.the_row V)
  tree_send = knot.both_send-Tree V
      (Arc-send (Entry.the_row V) entry_send entry_sync) Arc-send (search (blocks.the_send, plain) depth 60) (λ side sent shared. array_send side 16 sent)
      (Arc-sync (Entry.the_row V) entry_send entry_sync) Arc-sync (search (blocks.the_sync, plain) depth 60) (λ side sent shared. array_sync side 16 shared)

  map_send : IsSend (PMap.the_row V)
  map_send = view_send _ _ _ _ _ (declared_send (InPMap.the_type V) (search plain depth 60, (search (tree_send, plain) depth 60, tt)))

  pub numbered_send : IsSend (Numbered.the_row V)
  numbered_send = view_send _ _ _ _ _ (declared_send (InNumbered.the_type V) (map_send, tt))
