-- A side of a fork is lower than the fork, so that a walk down ends.
use Rattle.std.specs.Prelude.{◌≤◌, max}
use Rattle.std.proofs.Common.{arith}
use Rattle.ref_pmap.specs.Nodes.{tree_of}
use Rattle.ref_pmap.specs.declared.trees.Node.{Node}
use Rattle.ref_pmap.specs.declared.trees.Node.TheVariants.{Empty, Leaf, Fork}
use Rattle.ref_pmap.specs.declared.trees.Tree.TheDeep.{deep-Node}

pub falls : {V : Type 0} (node : Node V) → max (deep-Node V node) 0 ≤ (tree_of node).1
falls Empty = omega arith
falls (Leaf entry) = omega arith
falls (Fork branch) = omega arith
