-- A side of a fork is lower than the fork, so that a walk down ends.
use Rattle.std.specs.Prelude.{◌≤◌, max}
use Rattle.std.proofs.Common.{arith}
use Rattle.ref_pvec.specs.Trees.{tree_of, branch_of}
use Rattle.ref_pvec.specs.declared.trees.Node.{Node}
use Rattle.ref_pvec.specs.declared.trees.Node.TheVariants.{Leaf, Fork}
use Rattle.ref_pvec.specs.declared.trees.Branch.{Branch}
use Rattle.ref_pvec.specs.declared.trees.Branch.TheVariants.{Sides}
use Rattle.ref_pvec.specs.declared.trees.Tree.TheDeep.{deep-Node, deep-Branch}

falls_branch : {T : Type 0} (branch : Branch T) → max (deep-Branch T branch) 0 ≤ (branch_of branch).1
falls_branch (Sides left_len len left right) = omega arith

pub falls : {T : Type 0} (node : Node T) → max (deep-Node T node) 0 ≤ (tree_of node).1
falls (Leaf chunk) = omega arith
falls (Fork branch) = omega (arith, falls_branch branch.value)
