use Rattle.std.proofs.Common.{arith}
use Rattle.ref_pmap.proofs.Sides.{only_found}
use Rattle.ref_pmap.proofs.trees.Branch.only_side.Goals as goal

pub returns : goal.returns
returns g c = rw c.or.ensures (only_found _ c.loop-i.i c.loop-i.only c.requires.count (omega arith) c.loop-i.invariant)
