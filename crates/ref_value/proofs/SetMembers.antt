-- Elements in value order, with one more or one less.
use Rattle.std.proofs.Common.{◌≡◌, ℕ, zero, suc, ◌<◌, true, false, List, [], ◌∷◌, refl, sym, ap, ◌∙◌, subst, arith, cond, get_or, length}
use Rattle.std.specs.Prelude.{◌≢◌, ◌||◌, IsTrue, IfOk, IfErr, Result, Ok, Err, is_ok, insert, remove}
use Rattle.std.specs.List.{AllByRecursion}
use Rattle.std.specs.List.Sorted.{IsStrictlySortedBy}
use Rattle.std.specs.Ordering.{is_eq, match_ordering}
use Rattle.std.specs.declared.cmp.Ordering.{Ordering}
use Rattle.std.specs.declared.cmp.Ordering.TheVariants.{Less, Equal, Greater}
use Rattle.std.specs.BTreeMap.{is_at}
use Rattle.std.proofs.lemmas.Bool.{or_right}
use Rattle.std.proofs.lemmas.Map.Keys.{sorted_tail, sorted_head, Less-from_sorted}
use Rattle.ref_value.specs.Edn.{Edn, items_of}
use Rattle.ref_value.specs.Order.{edn_cmp, elements_ascend}
use Rattle.ref_value.specs.OrderLaws.{edn_cmp_total, edn_same}
use Rattle.ref_value.specs.Collections.{has_element, elements_with, elements_without, ChangesElement, IsFoundAt, IsGapAt}
use Rattle.ref_value.proofs.Compared.{same_is, other_is, turned}
use Rattle.ref_value.proofs.Places.{gap_tail, gap_head, gap_here, gap_later, found_tail, found_here}
use Rattle.ref_value.specs.SortedLists.{insert_sorted, remove_sorted}
use Rattle.ref_value.specs.AscendLaws.{sorted_from_ascend, ascend_from_sorted}

-- In ascending elements those before an equal one are less.
pub before_found : (x y : Edn) (ys : List Edn) (i : ℕ) → IsStrictlySortedBy edn_cmp (y ∷ ys) → IsFoundAt (λ z. edn_cmp z x) (y ∷ ys) (suc i) → edn_cmp x y ≡ Greater
before_found x y ys i s h =
    let same : get_or ys i y ≡ x = edn_same (get_or ys i y) x (h.equal y) in
    let in_range : suc i < length (y ∷ ys) = h.in_range in
    turned x y Less (subst (λ z. edn_cmp y z ≡ Less) same (Less-from_sorted edn_cmp (y ∷ ys) 0 (suc i) y s (omega arith) in_range))

-- ---- one more

pub with_gap : (xs : List Edn) (x : Edn) (i : ℕ) → IsGapAt (λ y. edn_cmp y x) xs i → elements_with xs x ≡ insert xs i x
with_gap [] x zero h = refl
with_gap [] x (suc i) h = let in_range = h.in_range in absurd (omega arith)
with_gap (y ∷ ys) x zero h = rw (turned x y Greater (gap_here (λ z. edn_cmp z x) y ys h)) refl
with_gap (y ∷ ys) x (suc i) h =
    let e = with_gap ys x i (gap_tail (λ z. edn_cmp z x) y ys i h) in
    rw (turned x y Less (gap_head (λ z. edn_cmp z x) y ys i h)) (ap (λ l. y ∷ l) e)

pub with_found : (xs : List Edn) (x : Edn) (i : ℕ) → IsTrue (elements_ascend (items_of xs)) → IsFoundAt (λ y. edn_cmp y x) xs i → elements_with xs x ≡ xs
with_found xs x i up h = by xs i (sorted_from_ascend xs up) h
  where
    by : (xs : List Edn) (i : ℕ) → IsStrictlySortedBy edn_cmp xs → IsFoundAt (λ y. edn_cmp y x) xs i → elements_with xs x ≡ xs
    by [] i s h = let in_range = h.in_range in absurd (omega arith)
    by (y ∷ ys) zero s h = rw (turned x y Equal (found_here (λ z. edn_cmp z x) y ys h)) refl
    by (y ∷ ys) (suc i) s h =
        let e = by ys i (sorted_tail edn_cmp y ys s) (found_tail (λ z. edn_cmp z x) y ys i h) in
        rw (before_found x y ys i s h) (ap (λ l. y ∷ l) e)

pub with_ascends : (xs : List Edn) (x : Edn) → IsTrue (elements_ascend (items_of xs)) → IsTrue (elements_ascend (items_of (elements_with xs x)))
with_ascends xs x up = ascend_from_sorted (elements_with xs x) (insert_sorted edn_cmp_total xs x (sorted_from_ascend xs up))

with_here : (xs : List Edn) (x : Edn) → has_element (elements_with xs x) x ≡ true
with_here [] x = rw (same_is x) refl
with_here (y ∷ ys) x = by (edn_cmp x y) refl (with_here ys x)
  where
    by : (r : Ordering) → edn_cmp x y ≡ r → has_element (elements_with ys x) x ≡ true → has_element (match_ordering r (x ∷ y ∷ ys) (y ∷ ys) (y ∷ elements_with ys x)) x ≡ true
    by Less e k = rw (same_is x) refl
    by Equal e k = rw e refl
    by Greater e k = or_right (is_eq (edn_cmp x y)) (has_element (elements_with ys x) x) k

with_elsewhere : (xs : List Edn) (x q : Edn) → q ≢ x → has_element (elements_with xs x) q ≡ has_element xs q
with_elsewhere [] x q h = rw (other_is q x h) refl
with_elsewhere (y ∷ ys) x q h = by (edn_cmp x y) (with_elsewhere ys x q h)
  where
    by : (r : Ordering) → has_element (elements_with ys x) q ≡ has_element ys q → has_element (match_ordering r (x ∷ y ∷ ys) (y ∷ ys) (y ∷ elements_with ys x)) q ≡ has_element (y ∷ ys) q
    by Less k = rw (other_is q x h) refl
    by Equal k = refl
    by Greater k = ap (λ b. is_eq (edn_cmp q y) || b) k

pub with_changes : (xs : List Edn) (x : Edn) → ChangesElement xs (elements_with xs x) x true
with_changes xs x = record { here = with_here xs x; elsewhere = λ q h. with_elsewhere xs x q h }

-- ---- one less

pub without_gap : (xs : List Edn) (x : Edn) (i : ℕ) → IsGapAt (λ y. edn_cmp y x) xs i → elements_without xs x ≡ xs
without_gap [] x i h = refl
without_gap (y ∷ ys) x zero h =
    let e = without_gap ys x zero (gap_later (λ z. edn_cmp z x) y ys h) in
    rw (turned x y Greater (gap_here (λ z. edn_cmp z x) y ys h)) (ap (λ l. y ∷ l) e)
without_gap (y ∷ ys) x (suc i) h =
    let e = without_gap ys x i (gap_tail (λ z. edn_cmp z x) y ys i h) in
    rw (turned x y Less (gap_head (λ z. edn_cmp z x) y ys i h)) (ap (λ l. y ∷ l) e)

pub without_found : (xs : List Edn) (x : Edn) (i : ℕ) → IsTrue (elements_ascend (items_of xs)) → IsFoundAt (λ y. edn_cmp y x) xs i → elements_without xs x ≡ remove xs i
without_found xs x i up h = by xs i (sorted_from_ascend xs up) h
  where
    by : (xs : List Edn) (i : ℕ) → IsStrictlySortedBy edn_cmp xs → IsFoundAt (λ y. edn_cmp y x) xs i → elements_without xs x ≡ remove xs i
    by [] i s h = let in_range = h.in_range in absurd (omega arith)
    by (y ∷ ys) zero s h = rw (turned x y Equal (found_here (λ z. edn_cmp z x) y ys h)) refl
    by (y ∷ ys) (suc i) s h =
        let e = by ys i (sorted_tail edn_cmp y ys s) (found_tail (λ z. edn_cmp z x) y ys i h) in
        rw (before_found x y ys i s h) (ap (λ l. y ∷ l) e)

pub without_ascends : (xs : List Edn) (x : Edn) → IsTrue (elements_ascend (items_of xs)) → IsTrue (elements_ascend (items_of (elements_without xs x)))
without_ascends xs x up = ascend_from_sorted (elements_without xs x) (remove_sorted edn_cmp_total (is_at (edn_cmp x)) xs (sorted_from_ascend xs up))

none_behind : (y : Edn) (ys : List Edn) → AllByRecursion (λ z. edn_cmp y z ≡ Less) ys → has_element ys y ≡ false
none_behind y [] h = refl
none_behind y (z ∷ zs) h = rw h.0 (none_behind y zs h.1)

without_here : (xs : List Edn) (x : Edn) → IsStrictlySortedBy edn_cmp xs → has_element (elements_without xs x) x ≡ false
without_here [] x s = refl
without_here (y ∷ ys) x s = by (edn_cmp x y) refl (without_here ys x (sorted_tail edn_cmp y ys s))
  where
    by : (r : Ordering) → edn_cmp x y ≡ r → has_element (elements_without ys x) x ≡ false → has_element (cond (is_eq r) ys (y ∷ elements_without ys x)) x ≡ false
    by Less e k = rw (e, k) refl
    by Equal e k = rw (edn_same x y e) (none_behind y ys (sorted_head edn_cmp y ys s))
    by Greater e k = rw (e, k) refl

without_elsewhere : (xs : List Edn) (x q : Edn) → q ≢ x → has_element (elements_without xs x) q ≡ has_element xs q
without_elsewhere [] x q h = refl
without_elsewhere (y ∷ ys) x q h = by (edn_cmp x y) refl (without_elsewhere ys x q h)
  where
    by : (r : Ordering) → edn_cmp x y ≡ r → has_element (elements_without ys x) q ≡ has_element ys q → has_element (cond (is_eq r) ys (y ∷ elements_without ys x)) q ≡ has_element (y ∷ ys) q
    by Less e k = ap (λ b. is_eq (edn_cmp q y) || b) k
    by Equal e k = rw (other_is q y (λ p. h (p ∙ sym (edn_same x y e)))) refl
    by Greater e k = ap (λ b. is_eq (edn_cmp q y) || b) k

pub without_changes : (xs : List Edn) (x : Edn) → IsTrue (elements_ascend (items_of xs)) → ChangesElement xs (elements_without xs x) x false
without_changes xs x up = record { here = without_here xs x (sorted_from_ascend xs up); elsewhere = λ q h. without_elsewhere xs x q h }

-- ---- whether one is there

pub has_found : (xs : List Edn) (x : Edn) (i : ℕ) → IsFoundAt (λ y. edn_cmp y x) xs i → has_element xs x ≡ true
has_found [] x i h = let in_range = h.in_range in absurd (omega arith)
has_found (y ∷ ys) x zero h = rw (turned x y Equal (found_here (λ z. edn_cmp z x) y ys h)) refl
has_found (y ∷ ys) x (suc i) h = or_right (is_eq (edn_cmp x y)) (has_element ys x) (has_found ys x i (found_tail (λ z. edn_cmp z x) y ys i h))

pub has_gap : (xs : List Edn) (x : Edn) (i : ℕ) → IsGapAt (λ y. edn_cmp y x) xs i → has_element xs x ≡ false
has_gap [] x i h = refl
has_gap (y ∷ ys) x zero h = rw (turned x y Greater (gap_here (λ z. edn_cmp z x) y ys h)) (has_gap ys x zero (gap_later (λ z. edn_cmp z x) y ys h))
has_gap (y ∷ ys) x (suc i) h = rw (turned x y Less (gap_head (λ z. edn_cmp z x) y ys i h)) (has_gap ys x i (gap_tail (λ z. edn_cmp z x) y ys i h))

-- what a search tells
pub has_is : (xs : List Edn) (x : Edn) (r : Result ℕ ℕ) → IfOk r (IsFoundAt (λ y. edn_cmp y x) xs) → IfErr r (IsGapAt (λ y. edn_cmp y x) xs) → is_ok r ≡ has_element xs x
has_is xs x (Ok i) found missed = sym (has_found xs x i found)
has_is xs x (Err i) found missed = sym (has_gap xs x i missed)
