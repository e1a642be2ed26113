-- A tree of chunks: its members in order, its height, and its mark, which says nothing of it here.
use Rattle.std.specs.Prelude.{◌≡◌, ℕ, Bool, ◌+◌, max, List, ◌++◌, length}
use Rattle.ref_value.specs.Edn.{Edn}
use Rattle.ref_value.specs.Deepest.{IsDeepestEntry}
use Rattle.ref_value.specs.Chunks.{members_of}
use Rattle.ref_value.specs.declared.sequence.trees.Limb.{Limb}
use Rattle.ref_value.specs.declared.sequence.trees.Limb.TheVariants.{Leaf, Fork}

abbrev pub tree_of : Limb → List (Edn × Edn) × ℕ × Bool
tree_of (Leaf deepest mark chunk) = (members_of chunk, 0, mark)
tree_of (Fork deepest mark height len l r) = (l.0 ++ r.0, max l.1 r.1 + 1, mark)

-- What a node stores of its members is right.
abbrev pub IsTree : Limb → Type 0
IsTree (Leaf deepest mark chunk) = IsDeepestEntry deepest (members_of chunk)
IsTree (Fork deepest mark height len l r) = (len ≡ length (l.0 ++ r.0)) × IsDeepestEntry deepest (l.0 ++ r.0) × (height ≡ max l.1 r.1 + 1)
