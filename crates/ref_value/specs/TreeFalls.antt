-- Each part of a tree weighs less than the tree.
use Rattle.std.specs.Prelude.{◌≤◌, max, ◌+◌, ◌*◌}
use Rattle.std.proofs.Common.{arith}
use Rattle.ref_value.specs.Edn.{entries_of, entries_depth}
use Rattle.ref_value.specs.Most.{most_values, most_pairs, depth_both}
use Rattle.ref_value.specs.Trees.{tree_of}
use Rattle.ref_value.specs.declared.sequence.chunks.Chunk.TheVariants.{Values, Pairs, One}
use Rattle.ref_value.specs.declared.sequence.trees.Limb.{Limb}
use Rattle.ref_value.specs.declared.sequence.trees.Limb.TheVariants.{Leaf, Fork}
use Rattle.ref_value.specs.declared.data.Value.TheDeep.{deep-Limb}

pub tree_falls : (n : Limb) → max (deep-Limb n) 0 ≤ 300 * entries_depth (entries_of (tree_of n).0) + (tree_of n).1 + 1
tree_falls (Leaf deepest mark (Values v)) = omega (arith, most_values v.items)
tree_falls (Leaf deepest mark (Pairs v)) = omega (arith, most_pairs v.items)
tree_falls (Leaf deepest mark (One x)) = omega arith
tree_falls (Fork deepest mark height len l r) = omega (arith, depth_both l.0 r.0)
