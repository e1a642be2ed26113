-- Neighbours of a list in value order.
use Rattle.std.proofs.Common.{◌≡◌, ℕ, zero, suc, ◌-◌, ◌<◌, ◌≤◌, true, List, [], ◌∷◌, refl, arith, drop, get_or, length, length-drop, drop-cons, sub-one}
use Rattle.std.specs.Prelude.{◌&&◌}
use Rattle.std.specs.Ordering.{is_lt}
use Rattle.ref_value.specs.Edn.{Edn, items_of, entries_of}
use Rattle.ref_value.specs.Order.{edn_cmp, elements_ascend, keys_ascend}

pub ascending_at : (xs : List Edn) (i : ℕ) (x y : Edn) → 1 ≤ i → i < length xs
    → elements_ascend (items_of (drop (i - 1) xs)) ≡ (is_lt (edn_cmp (get_or xs (i - 1) x) (get_or xs i y)) && elements_ascend (items_of (drop i xs)))
ascending_at xs zero x y h k = absurd (omega arith)
ascending_at xs (suc i) x y h k =
    let below : i < length xs = omega arith in
    let e : drop i xs ≡ get_or xs i x ∷ (get_or xs (suc i) y ∷ drop (suc (suc i)) xs) = rw (drop-cons xs i x, drop-cons xs (suc i) y) refl in
    let f : drop (suc i) xs ≡ get_or xs (suc i) y ∷ drop (suc (suc i)) xs = drop-cons xs (suc i) y k in
    rw (sub-one, e, f) refl

short : (xs : List Edn) → length xs ≤ 1 → elements_ascend (items_of xs) ≡ true
short [] h = refl
short (x ∷ []) h = refl
short (x ∷ y ∷ ys) h = absurd (omega arith)

pub ascending_end : (xs : List Edn) (i : ℕ) → 1 ≤ i → length xs ≤ i → elements_ascend (items_of (drop (i - 1) xs)) ≡ true
ascending_end xs i h k = short (drop (i - 1) xs) (omega (arith, length-drop (i - 1) xs))

pub keys_at : (xs : List (Edn × Edn)) (i : ℕ) (x y : Edn × Edn) → 1 ≤ i → i < length xs
    → keys_ascend (entries_of (drop (i - 1) xs)) ≡ (is_lt (edn_cmp (get_or xs (i - 1) x).0 (get_or xs i y).0) && keys_ascend (entries_of (drop i xs)))
keys_at xs zero x y h k = absurd (omega arith)
keys_at xs (suc i) x y h k =
    let below : i < length xs = omega arith in
    let e : drop i xs ≡ get_or xs i x ∷ (get_or xs (suc i) y ∷ drop (suc (suc i)) xs) = rw (drop-cons xs i x, drop-cons xs (suc i) y) refl in
    let f : drop (suc i) xs ≡ get_or xs (suc i) y ∷ drop (suc (suc i)) xs = drop-cons xs (suc i) y k in
    rw (sub-one, e, f) refl

short_keys : (xs : List (Edn × Edn)) → length xs ≤ 1 → keys_ascend (entries_of xs) ≡ true
short_keys [] h = refl
short_keys (x ∷ []) h = refl
short_keys (x ∷ y ∷ ys) h = absurd (omega arith)

pub keys_end : (xs : List (Edn × Edn)) (i : ℕ) → 1 ≤ i → length xs ≤ i → keys_ascend (entries_of (drop (i - 1) xs)) ≡ true
keys_end xs i h k = short_keys (drop (i - 1) xs) (omega (arith, length-drop (i - 1) xs))
