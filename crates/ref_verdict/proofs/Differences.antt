-- The first difference of two lists of values, from a place on.
use Rattle.std.proofs.Common.{◌≡◌, ℕ, ◌+◌, ◌<◌, ◌≤◌, zero, suc, List, [], ◌∷◌, drop, length, get_or, None, Some, cond, refl, sym, ◌∙◌, ap, add-one, drop-cons, length-drop, arith}
use Rattle.std.proofs.lemmas.List.{drop_all}
use Rattle.std.proofs.lemmas.Option.{get_or_from_slice_get, slice_get_within}
use Rattle.std.specs.Prelude.{slice_get}
use Rattle.std.specs.Ordering.{eq_by_cmp}
use Rattle.ref_value.specs.Edn.{Edn}
use Rattle.ref_value.specs.Order.{edn_cmp}
use Rattle.ref_verdict.specs.Verdict.{first_difference, values_of}
use Rattle.ref_verdict.specs.declared.reading.dumps.Kept.{Kept}

next : {A : Type 0} (xs : List A) (i : ℕ) (x : A) → i < length xs → x ≡ get_or xs i x → drop i xs ≡ x ∷ drop (i + 1) xs
next xs i x h is = rw (add-one) (drop-cons xs i x h ∙ ap (λ y. y ∷ drop (suc i) xs) (sym is))

found : (xs : List Edn) (i : ℕ) (v : Edn) → slice_get xs i ≡ Some v → drop i xs ≡ v ∷ drop (i + 1) xs
found xs i v e = next xs i v (slice_get_within xs i v e) (sym (get_or_from_slice_get xs i v v e))

-- both have a value there
pub difference_here : (now : List Kept) (replayed : List Edn) (n : ℕ) (kept : Kept) (v : Edn) → n < length now → kept ≡ get_or now n kept → slice_get replayed n ≡ Some v → first_difference n (values_of (drop n now)) (drop n replayed) ≡ cond (eq_by_cmp edn_cmp kept.value v) (first_difference (n + 1) (values_of (drop (n + 1) now)) (drop (n + 1) replayed)) (Some n)
difference_here now replayed n kept v h is there = rw (next now n kept h is, found replayed n v there) refl

past : (xs : List Edn) (n : ℕ) → slice_get xs n ≡ None → drop n xs ≡ []
past [] n e = drop_all n [] (omega arith)
past (x ∷ xs) zero e = absurd cc
past (x ∷ xs) (suc n) e = past xs n e

-- the replay has none there
pub difference_past : (now : List Kept) (replayed : List Edn) (n : ℕ) (kept : Kept) → n < length now → kept ≡ get_or now n kept → slice_get replayed n ≡ None → first_difference n (values_of (drop n now)) (drop n replayed) ≡ Some n
difference_past now replayed n kept h is none = rw (next now n kept h is, past replayed n none) refl

behind : (n : ℕ) (ys : List Edn) → 0 < length ys → first_difference n [] ys ≡ Some n
behind n [] h = absurd (omega arith)
behind n (y ∷ ys) h = refl

-- only the replay has more
pub difference_behind : (now : List Kept) (replayed : List Edn) (n : ℕ) → length now ≤ n → n < length replayed → first_difference n (values_of (drop n now)) (drop n replayed) ≡ Some n
difference_behind now replayed n h more =
    let left : 0 < length (drop n replayed) = simp length-drop (omega arith) in
    rw (drop_all n now h) (behind n (drop n replayed) left)
