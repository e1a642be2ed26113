-- What a node holds: its items in order, and its height.
use Rattle.std.specs.Prelude.{◌≡◌, ℕ, ◌+◌, max, List, ◌++◌, length}
use Rattle.ref_pvec.specs.Chunks.{chunk_items}
use Rattle.ref_pvec.specs.declared.trees.Node.{Node}
use Rattle.ref_pvec.specs.declared.trees.Node.TheVariants.{Leaf, Fork}
use Rattle.ref_pvec.specs.declared.trees.Branch.{Branch}
use Rattle.ref_pvec.specs.declared.trees.Branch.TheVariants.{Sides}

module _ {T : Type 0} where
  abbrev pub branch_of : Branch T → List T × ℕ
  branch_of (Sides left_len len left right) = (left.0 ++ right.0, max left.1 right.1 + 1)

  abbrev pub tree_of : Node T → List T × ℕ
  tree_of (Leaf chunk) = (chunk_items chunk, 0)
  tree_of (Fork branch) = branch_of branch.value

  -- the lengths that are stored are those of the sides
  abbrev pub IsBranch : Branch T → Type 0
  IsBranch (Sides left_len len left right) = (left_len ≡ length left.0) × (len ≡ length left.0 + length right.0)

  abbrev pub IsTree : Node T → Type 0
  IsTree (Leaf chunk) = Unit {0}
  IsTree (Fork branch) = IsBranch branch.value
