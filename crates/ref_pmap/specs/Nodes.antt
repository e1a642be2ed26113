-- What a node holds: its entries as a map, and its height.
use Rattle.std.specs.Prelude.{ℕ}
use Rattle.std.specs.Ordering.{nat_cmp}
use Rattle.std.specs.FinMap.{FinMap, empty}
use Rattle.ref_pmap.specs.Joined.{single}
use Rattle.ref_pmap.specs.Trees.{all_joined, height, IsFork}
use Rattle.ref_pmap.specs.declared.trees.Node.{Node}
use Rattle.ref_pmap.specs.declared.trees.Node.TheVariants.{Empty, Leaf, Fork}

module _ {V : Type 0} where
  abbrev pub tree_of : Node V → FinMap nat_cmp V × ℕ
  tree_of Empty = (empty, 0)
  tree_of (Leaf entry) = (single entry.value.key entry.value.value, 0)
  tree_of (Fork branch) = (all_joined branch.value.sides, height branch.value.sides)

  abbrev pub IsTree : Node V → Type 0
  IsTree Empty = Unit {0}
  IsTree (Leaf entry) = Unit {0}
  IsTree (Fork branch) = IsFork branch.value.block branch.value.sides
