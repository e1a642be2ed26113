-- Each member of a chunk weighs less than the chunk.
use Rattle.std.specs.Prelude.{◌≡◌, ◌≤◌, max, ◌+◌, ◌*◌, List, [], ◌∷◌, ◌++◌}
use Rattle.std.proofs.Common.{arith}
use denote.Param.Weighed.{most}
use Rattle.ref_value.specs.Edn.{Edn, nesting, items_of, entries_of, items_depth, entries_depth}
use Rattle.ref_value.specs.Members.{twins, singles, AreTwins}

pub most_values : (xs : List Edn) → most (λ y. 300 * nesting y + 1) xs ≤ 300 * entries_depth (entries_of (twins xs)) + 1
most_values [] = omega arith
most_values (x ∷ xs) = omega (arith, most_values xs)

pub most_pairs : (xs : List (Edn × Edn)) → most (λ y. max (300 * nesting y.0 + 1) (max (300 * nesting y.1 + 1) 0)) xs ≤ 300 * entries_depth (entries_of xs) + 1
most_pairs [] = omega arith
most_pairs (x ∷ xs) = omega (arith, most_pairs xs)

pub depth_both : (xs ys : List (Edn × Edn)) → entries_depth (entries_of (xs ++ ys)) ≡ max (entries_depth (entries_of xs)) (entries_depth (entries_of ys))
depth_both [] ys = omega arith
depth_both (x ∷ xs) ys = omega (arith, depth_both xs ys)

-- A single member is as deep as the pair that stands for it.
pub depth_of_twins : (es : List (Edn × Edn)) → AreTwins es → entries_depth (entries_of es) ≡ items_depth (items_of (singles es))
depth_of_twins [] h = omega arith
depth_of_twins (e ∷ es) h = rw (← h.0) (omega (arith, depth_of_twins es h.1))
