use Rattle.std.proofs.Common.{arith}
use Rattle.ref_edn.proofs.Twins.{twin_turn}
use Rattle.ref_edn.proofs.members.most_left.Goals as goal

pub loop-i-preserved : goal.loop-i-preserved
loop-i-preserved c =
    twin_turn c.args.sorted.now c.loop-i.i c.loop-i.most c.twin.result c.max-most.result c.index-sorted-i-in-loop-i.result c.index-sorted-i.result (omega arith) (omega arith) c.index-sorted-i.is c.twin.ensures c.max-most.ensures
    c.loop-i.invariant
