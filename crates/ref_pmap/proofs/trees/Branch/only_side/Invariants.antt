use Rattle.ref_pmap.proofs.Sides.{OnlySo}
use Rattle.ref_pmap.proofs.trees.Branch.only_side.Given as goal

abbrev pub invariant-loop-i : goal.invariant-loop-i
invariant-loop-i g l = OnlySo l.self.sides l.i l.only
