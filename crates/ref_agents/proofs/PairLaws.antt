-- The order of pairs, and what a set of them has.
use Rattle.std.proofs.Common.{◌≡◌, ◌∙◌, ◌≤◌, ◌<◌, ◌==◌, ◌&&◌, ◌||◌, ℕ, Bool, true, false, cond, List, [], ◌∷◌, ◌++◌, slice_get, arith, refl, ap, subst}
use Rattle.std.specs.BTreeMap.{is_at}
use Rattle.std.specs.BTreeMap.Range.{IsInRange, IsLeBy}
use Rattle.std.specs.BTreeSet.{BTreeSet, IsKeyInRange, IsKeyRangeOf}
use Rattle.std.specs.Option.{IfSome}
use Rattle.std.specs.Ordering.{is_lt}
use Rattle.std.specs.declared.ops.Bound.TheVariants.{Included}
use Rattle.std.proofs.lemmas.Bool.Decides.{nat_tests}
use Rattle.ref_agents.specs.Places.{has_pair, pair_cmp}

at_pair : (x y a b : ℕ) → is_at (pair_cmp (x, y)) (a, b) ≡ ((x == a) && (y == b))
at_pair x y a b = grind (arith, nat_tests)

-- with one more
pub with_one : (x y a b : ℕ) (r : Bool) → cond (is_at (pair_cmp (x, y)) (a, b)) true r ≡ (((x == a) && (y == b)) || r)
with_one x y a b r = ap (λ t. cond t true r) (at_pair x y a b) ∙ by ((x == a) && (y == b)) where
  by : (t : Bool) → cond t true r ≡ (t || r)
  by true = refl
  by false = refl

-- without one
pub without_one : (x y a b : ℕ) (r : Bool) → cond (is_at (pair_cmp (x, y)) (a, b)) false r ≡ cond ((x == a) && (y == b)) false r
without_one x y a b r = ap (λ t. cond t false r) (at_pair x y a b)

within : (x b e : ℕ) (k : ℕ × ℕ) → IsInRange pair_cmp (Included (x, b)) (Included (x, e)) k → (k.0 ≡ x) × (b ≤ k.1) × (k.1 ≤ e)
within x b e k is = grind (arith, nat_tests)

in_range : (x b e y : ℕ) → b ≤ y → y ≤ e → IsInRange pair_cmp (Included (x, b)) (Included (x, e)) (x, y)
in_range x b e y from upto = grind (arith, nat_tests)

at_most : (x y b : ℕ) → IsLeBy pair_cmp (x, y) (x, b) → y ≤ b
at_most x y b is = grind (arith, nat_tests)

at_least : (x y b : ℕ) → is_lt (pair_cmp (x, y) (x, b)) ≡ false → b ≤ y
at_least x y b is = grind (arith, nat_tests)

not_so : (b : Bool) → (b ≡ true → ⊥) → b ≡ false
not_so true never = absurd (never refl)
not_so false never = refl

-- ---- the pairs with one first number

module _ (s : BTreeSet (ℕ × ℕ)) (x b e : ℕ) (lo hi : ℕ × ℕ) (r : List (ℕ × ℕ)) (lo_is : lo ≡ (x, b)) (hi_is : hi ≡ (x, e)) (all : IsKeyRangeOf pair_cmp (Included lo) (Included hi) s r) where
  ranged : IsKeyRangeOf pair_cmp (Included (x, b)) (Included (x, e)) s r
  ranged = subst (λ h. IsKeyRangeOf pair_cmp (Included (x, b)) (Included h) s r) hi_is (subst (λ l. IsKeyRangeOf pair_cmp (Included l) (Included hi) s r) lo_is all)

  of_key : (k : ℕ × ℕ) → IsKeyInRange pair_cmp (Included (x, b)) (Included (x, e)) s k → (k.0 ≡ x) × (b ≤ k.1) × (k.1 ≤ e) × (has_pair s.keys x k.1 ≡ true)
  of_key k is =
      let w = within x b e k is.0 in
      (w.0, w.1, w.2, subst (λ n. has_pair s.keys n k.1 ≡ true) w.0 is.1)

  first_is : (k : ℕ × ℕ) (rest : List (ℕ × ℕ)) → r ≡ k ∷ rest → IsKeyInRange pair_cmp (Included (x, b)) (Included (x, e)) s k
  first_is k rest is = subst (λ l. IfSome (slice_get l 0) (IsKeyInRange pair_cmp (Included (x, b)) (Included (x, e)) s)) is ranged.1

  pub first_here : (k : ℕ × ℕ) (rest : List (ℕ × ℕ)) → r ≡ k ∷ rest → (b ≤ k.1) × (has_pair s.keys x k.1 ≡ true)
  first_here k rest is = let found = of_key k (first_is k rest is) in (found.1, found.3)

  pub first_least : (k : ℕ × ℕ) (rest : List (ℕ × ℕ)) → r ≡ k ∷ rest → (y : ℕ) → b ≤ y → y < k.1 → has_pair s.keys x y ≡ false
  first_least k rest is y from below = not_so (has_pair s.keys x y) (λ has.
      let found = of_key k (first_is k rest is) in
      let upto : y ≤ e = omega (arith, below, found.2) in
      let le = subst (λ l. IfSome (slice_get l 0) (λ k. IsLeBy pair_cmp k (x, y))) is (ranged.2 (x, y) (in_range x b e y from upto) has) in
      absurd (omega (arith, below, at_most x k.1 y (subst (λ n. IsLeBy pair_cmp (n, k.1) (x, y)) found.0 le))))

  pub last_here : (k : ℕ × ℕ) (front : List (ℕ × ℕ)) → r ≡ front ++ k ∷ [] → has_pair s.keys x k.1 ≡ true
  last_here k front is = (of_key k (ranged.3 k front is)).3

  pub last_greatest : (k : ℕ × ℕ) (front : List (ℕ × ℕ)) → r ≡ front ++ k ∷ [] → (y : ℕ) → b ≤ y → y ≤ e → k.1 < y → has_pair s.keys x y ≡ false
  last_greatest k front is y from upto above = not_so (has_pair s.keys x y) (λ has.
      let first = (of_key k (ranged.3 k front is)).0 in
      absurd (omega (arith, above, at_least x k.1 y (subst (λ n. is_lt (pair_cmp (n, k.1) (x, y)) ≡ false) first (ranged.4 k front is (x, y) (in_range x b e y from upto) has)))))

  pub none_here : r ≡ [] → (y : ℕ) → b ≤ y → y ≤ e → has_pair s.keys x y ≡ false
  none_here none y from upto = ranged.5 none (x, y) (in_range x b e y from upto)
