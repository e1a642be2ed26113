-- A vector may go to another thread where each item may go there, and be lent to one.
use denote.RattleType.{RattleType}
use denote.Param.Send.{IsSend, IsSync, sendable, view_send}
use denote.Param.SendFields.{declared_send}
use Rattle.std.proofs.Crossing.{crosses, Arc-send, Arc-sync, Vec-send, Vec-sync}
use Rattle.std.specs.contracts.alloc.Global as Heap
use Rattle.std.specs.contracts.impls.GlobalAllocator.TheImpl.{ghosts}
use Rattle.std.specs.contracts.sync.Arc as Arc
use Rattle.std.specs.contracts.vec.Vec as Vec
use Rattle.ref_pvec.proofs.trees.Tree.TheLaws.TheKnot as knot
use Rattle.ref_pvec.specs.contracts.trees.Tree as Tree
use Rattle.ref_pvec.specs.contracts.vectors.PVec as PVec
use Rattle.ref_pvec.specs.contracts.vectors.PVec.TheInside as InPVec

ruleset plain = (crosses, knot.crosses, sendable)

module _ (T : RattleType) (send : IsSend T) (sync : IsSync T) where
  items_send : IsSend (Vec.the_row (Arc.the_row T Heap.the_row ghosts) Heap.the_row ghosts)
  items_send = Vec-send _ (Arc-send T send sync)

  items_sync : IsSync (Vec.the_row (Arc.the_row T Heap.the_row ghosts) Heap.the_row ghosts)
  items_sync = Vec-sync _ (Arc-sync T send sync)

  chunk_send : IsSend (Arc.the_row (Vec.the_row (Arc.the_row T Heap.the_row ghosts) Heap.the_row ghosts) Heap.the_row ghosts)
  chunk_send = Arc-send _ items_send items_sync

  chunk_sync : IsSync (Arc.the_row (Vec.the_row (Arc.the_row T Heap.the_row ghosts) Heap.the_row ghosts) Heap.the_row ghosts)
  chunk_sync = Arc-sync _ items_send items_sync

  tree_send : IsSend (Tree.the_row T)
  tree_send = knot.both_send-Tree T
      (search plain depth 60) chunk_send Arc-send
      (search plain depth 60) chunk_sync Arc-sync

  pub vector_send : IsSend (PVec.the_row T)
  vector_send = view_send _ _ _ _ _ (declared_send (InPVec.the_type T) (
    search plain depth 60,
    (
      search plain depth 60,
      (
        search (tree_send, plain) depth 60,
        (search (chunk_send, plain) depth 60, tt),
      ),
    ),
  ))
