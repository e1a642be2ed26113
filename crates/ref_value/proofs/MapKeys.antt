-- Entries in the order of their keys, with one more or one less, and what stands at a key.
use Rattle.std.proofs.Common.{◌≡◌, ℕ, zero, suc, ◌<◌, Bool, List, [], ◌∷◌, refl, sym, ap, ◌∙◌, subst, arith, cond, get_or, length}
use Rattle.std.specs.Prelude.{◌≢◌, IsTrue, Some, None, insert, remove, slice_set}
use Rattle.std.specs.List.{AllByRecursion}
use Rattle.std.specs.List.Sorted.{IsStrictlySortedBy}
use Rattle.std.specs.Ordering.{is_eq, match_ordering}
use Rattle.std.specs.declared.cmp.Ordering.{Ordering}
use Rattle.std.specs.declared.cmp.Ordering.TheVariants.{Less, Equal, Greater}
use Rattle.std.specs.BTreeMap.{is_at}
use Rattle.std.specs.Map.{remove_entry}
use Rattle.std.specs.Set.{remove_key}
use Rattle.std.proofs.lemmas.Map.Keys.{sorted_tail, sorted_head, Less-from_sorted}
use Rattle.ref_value.specs.Edn.{Edn, entries_of}
use Rattle.ref_value.specs.Order.{edn_cmp, keys_ascend}
use Rattle.ref_value.specs.OrderLaws.{edn_same}
use Rattle.ref_value.specs.Collections.{value_at, entries_with, entries_without, ChangesKey, IsFoundAt, IsGapAt}
use Rattle.ref_value.proofs.Compared.{same_is, other_is, turned}
use Rattle.ref_value.proofs.Places.{gap_tail, gap_head, gap_here, gap_later, found_tail, found_here}
use Rattle.ref_value.specs.SortedLists.{sorted_cons, remove_sorted}
use Rattle.ref_value.specs.AscendLaws.{by_key, by_key_total, sorted_from_keys_ascend, keys_ascend_from_sorted}

abbrev order_of : Edn → Edn × Edn → Ordering
order_of k e = edn_cmp e.0 k

-- Keys before an equal one are less.
before_found : (k : Edn) (f : Edn × Edn) (fs : List (Edn × Edn)) (i : ℕ) → IsStrictlySortedBy by_key (f ∷ fs) → IsFoundAt (order_of k) (f ∷ fs) (suc i) → edn_cmp k f.0 ≡ Greater
before_found k f fs i s h =
    let same : (get_or fs i f).0 ≡ k = edn_same (get_or fs i f).0 k (h.equal f) in
    let in_range : suc i < length (f ∷ fs) = h.in_range in
    turned k f.0 Less (subst (λ z. edn_cmp f.0 z ≡ Less) same (Less-from_sorted by_key (f ∷ fs) 0 (suc i) f s (omega arith) in_range))

-- ---- one more

pub with_gap : (es : List (Edn × Edn)) (k x : Edn) (i : ℕ) → IsGapAt (order_of k) es i → entries_with es k x ≡ insert es i (k, x)
with_gap [] k x zero h = refl
with_gap [] k x (suc i) h = let in_range = h.in_range in absurd (omega arith)
with_gap (f ∷ fs) k x zero h = rw (turned k f.0 Greater (gap_here (order_of k) f fs h)) refl
with_gap (f ∷ fs) k x (suc i) h =
    let e = with_gap fs k x i (gap_tail (order_of k) f fs i h) in
    rw (turned k f.0 Less (gap_head (order_of k) f fs i h)) (ap (λ l. f ∷ l) e)

pub with_found : (es : List (Edn × Edn)) (k x : Edn) (i : ℕ) → IsTrue (keys_ascend (entries_of es)) → IsFoundAt (order_of k) es i → entries_with es k x ≡ slice_set es i (k, x)
with_found es k x i up h = by es i (sorted_from_keys_ascend es up) h
  where
    by : (es : List (Edn × Edn)) (i : ℕ) → IsStrictlySortedBy by_key es → IsFoundAt (order_of k) es i → entries_with es k x ≡ slice_set es i (k, x)
    by [] i s h = let in_range = h.in_range in absurd (omega arith)
    by (f ∷ fs) zero s h =
        let equal = found_here (order_of k) f fs h in
        rw (turned k f.0 Equal equal) (ap (λ l. (l, x) ∷ fs) (edn_same f.0 k equal))
    by (f ∷ fs) (suc i) s h =
        let e = by fs i (sorted_tail by_key f fs s) (found_tail (order_of k) f fs i h) in
        rw (before_found k f fs i s h) (ap (λ l. f ∷ l) e)

all_with : (P : Edn → Type 0) (es : List (Edn × Edn)) (k x : Edn) → AllByRecursion (λ e. P e.0) es → P k → AllByRecursion (λ e. P e.0) (entries_with es k x)
all_with P [] k x h p = (p, tt)
all_with P (f ∷ fs) k x h p = by (edn_cmp k f.0) (all_with P fs k x h.1 p)
  where
    by : (r : Ordering) → AllByRecursion (λ e. P e.0) (entries_with fs k x) → AllByRecursion (λ e. P e.0) (match_ordering r ((k, x) ∷ f ∷ fs) ((f.0, x) ∷ fs) (f ∷ entries_with fs k x))
    by Less l = (p, h)
    by Equal l = h
    by Greater l = (h.0, l)

with_sorted : (es : List (Edn × Edn)) (k x : Edn) → IsStrictlySortedBy by_key es → IsStrictlySortedBy by_key (entries_with es k x)
unfolding IsStrictlySortedBy
with_sorted [] k x s = (tt, tt)
with_sorted (f ∷ fs) k x s = by (edn_cmp k f.0) refl (with_sorted fs k x s.1)
  where
    by : (r : Ordering) → edn_cmp k f.0 ≡ r → IsStrictlySortedBy by_key (entries_with fs k x) → IsStrictlySortedBy by_key (match_ordering r ((k, x) ∷ f ∷ fs) ((f.0, x) ∷ fs) (f ∷ entries_with fs k x))
    by Less e l = sorted_cons by_key_total (k, x) f fs e s
    by Equal e l = s
    by Greater e l = (all_with (λ z. edn_cmp f.0 z ≡ Less) fs k x s.0 (turned f.0 k Greater e), l)

pub with_ascends : (es : List (Edn × Edn)) (k x : Edn) → IsTrue (keys_ascend (entries_of es)) → IsTrue (keys_ascend (entries_of (entries_with es k x)))
with_ascends es k x up = keys_ascend_from_sorted (entries_with es k x) (with_sorted es k x (sorted_from_keys_ascend es up))

with_here : (es : List (Edn × Edn)) (k x : Edn) → value_at (entries_with es k x) k ≡ Some x
with_here [] k x = rw (same_is k) refl
with_here (f ∷ fs) k x = by (edn_cmp k f.0) refl (with_here fs k x)
  where
    by : (r : Ordering) → edn_cmp k f.0 ≡ r → value_at (entries_with fs k x) k ≡ Some x → value_at (match_ordering r ((k, x) ∷ f ∷ fs) ((f.0, x) ∷ fs) (f ∷ entries_with fs k x)) k ≡ Some x
    by Less e l = rw (same_is k) refl
    by Equal e l = rw e refl
    by Greater e l = rw e l

with_elsewhere : (es : List (Edn × Edn)) (k x q : Edn) → q ≢ k → value_at (entries_with es k x) q ≡ value_at es q
with_elsewhere [] k x q h = rw (other_is q k h) refl
with_elsewhere (f ∷ fs) k x q h = by (edn_cmp k f.0) refl (with_elsewhere fs k x q h)
  where
    by : (r : Ordering) → edn_cmp k f.0 ≡ r → value_at (entries_with fs k x) q ≡ value_at fs q → value_at (match_ordering r ((k, x) ∷ f ∷ fs) ((f.0, x) ∷ fs) (f ∷ entries_with fs k x)) q ≡ value_at (f ∷ fs) q
    by Less e l = rw (other_is q k h) refl
    by Equal e l = rw (other_is q f.0 (λ p. h (p ∙ sym (edn_same k f.0 e)))) refl
    by Greater e l = ap (λ o. cond (is_eq (edn_cmp q f.0)) (Some f.1) o) l

pub with_changes : (es : List (Edn × Edn)) (k x : Edn) → ChangesKey es (entries_with es k x) k (Some x)
with_changes es k x = record { here = with_here es k x; elsewhere = λ q h. with_elsewhere es k x q h }

-- ---- one less

pub without_gap : (es : List (Edn × Edn)) (k : Edn) (i : ℕ) → IsGapAt (order_of k) es i → entries_without es k ≡ es
without_gap [] k i h = refl
without_gap (f ∷ fs) k zero h =
    let e = without_gap fs k zero (gap_later (order_of k) f fs h) in
    rw (turned k f.0 Greater (gap_here (order_of k) f fs h)) (ap (λ l. f ∷ l) e)
without_gap (f ∷ fs) k (suc i) h =
    let e = without_gap fs k i (gap_tail (order_of k) f fs i h) in
    rw (turned k f.0 Less (gap_head (order_of k) f fs i h)) (ap (λ l. f ∷ l) e)

pub without_found : (es : List (Edn × Edn)) (k : Edn) (i : ℕ) → IsTrue (keys_ascend (entries_of es)) → IsFoundAt (order_of k) es i → entries_without es k ≡ remove es i
without_found es k i up h = by es i (sorted_from_keys_ascend es up) h
  where
    by : (es : List (Edn × Edn)) (i : ℕ) → IsStrictlySortedBy by_key es → IsFoundAt (order_of k) es i → entries_without es k ≡ remove es i
    by [] i s h = let in_range = h.in_range in absurd (omega arith)
    by (f ∷ fs) zero s h = rw (turned k f.0 Equal (found_here (order_of k) f fs h)) refl
    by (f ∷ fs) (suc i) s h =
        let e = by fs i (sorted_tail by_key f fs s) (found_tail (order_of k) f fs i h) in
        rw (before_found k f fs i s h) (ap (λ l. f ∷ l) e)

remove_is : (test : Edn → Bool) (es : List (Edn × Edn)) → remove_entry test es ≡ remove_key (λ e. test e.0) es
remove_is test [] = refl
remove_is test (f ∷ fs) = ap (λ l. cond (test f.0) fs (f ∷ l)) (remove_is test fs)

pub without_ascends : (es : List (Edn × Edn)) (k : Edn) → IsTrue (keys_ascend (entries_of es)) → IsTrue (keys_ascend (entries_of (entries_without es k)))
without_ascends es k up =
    let sorted = remove_sorted by_key_total (λ e. is_at (edn_cmp k) e.0) es (sorted_from_keys_ascend es up) in
    keys_ascend_from_sorted (entries_without es k) (rw (remove_is (is_at (edn_cmp k)) es) sorted)

-- keys behind an equal one are greater
none_behind : (f : Edn × Edn) (fs : List (Edn × Edn)) → AllByRecursion (λ e. by_key f e ≡ Less) fs → value_at fs f.0 ≡ None
none_behind f [] h = refl
none_behind f (e ∷ es) h = rw h.0 (none_behind f es h.1)

without_here : (es : List (Edn × Edn)) (k : Edn) → IsStrictlySortedBy by_key es → value_at (entries_without es k) k ≡ None
without_here [] k s = refl
without_here (f ∷ fs) k s = by (edn_cmp k f.0) refl (without_here fs k (sorted_tail by_key f fs s))
  where
    by : (r : Ordering) → edn_cmp k f.0 ≡ r → value_at (entries_without fs k) k ≡ None → value_at (cond (is_eq r) fs (f ∷ entries_without fs k)) k ≡ None
    by Less e l = rw (e, l) refl
    by Equal e l = rw (edn_same k f.0 e) (none_behind f fs (sorted_head by_key f fs s))
    by Greater e l = rw (e, l) refl

without_elsewhere : (es : List (Edn × Edn)) (k q : Edn) → q ≢ k → value_at (entries_without es k) q ≡ value_at es q
without_elsewhere [] k q h = refl
without_elsewhere (f ∷ fs) k q h = by (edn_cmp k f.0) refl (without_elsewhere fs k q h)
  where
    by : (r : Ordering) → edn_cmp k f.0 ≡ r → value_at (entries_without fs k) q ≡ value_at fs q → value_at (cond (is_eq r) fs (f ∷ entries_without fs k)) q ≡ value_at (f ∷ fs) q
    by Less e l = ap (λ o. cond (is_eq (edn_cmp q f.0)) (Some f.1) o) l
    by Equal e l = rw (other_is q f.0 (λ p. h (p ∙ sym (edn_same k f.0 e)))) refl
    by Greater e l = ap (λ o. cond (is_eq (edn_cmp q f.0)) (Some f.1) o) l

pub without_changes : (es : List (Edn × Edn)) (k : Edn) → IsTrue (keys_ascend (entries_of es)) → ChangesKey es (entries_without es k) k None
without_changes es k up = record { here = without_here es k (sorted_from_keys_ascend es up); elsewhere = λ q h. without_elsewhere es k q h }

-- ---- the value of a key

pub value_found : (es : List (Edn × Edn)) (k : Edn) (i : ℕ) (e : Edn × Edn) → IsTrue (keys_ascend (entries_of es)) → IsFoundAt (order_of k) es i → value_at es k ≡ Some (get_or es i e).1
value_found es k i e up h = by es i (sorted_from_keys_ascend es up) h
  where
    by : (es : List (Edn × Edn)) (i : ℕ) → IsStrictlySortedBy by_key es → IsFoundAt (order_of k) es i → value_at es k ≡ Some (get_or es i e).1
    by [] i s h = let in_range = h.in_range in absurd (omega arith)
    by (f ∷ fs) zero s h = rw (turned k f.0 Equal (found_here (order_of k) f fs h)) refl
    by (f ∷ fs) (suc i) s h = let r = by fs i (sorted_tail by_key f fs s) (found_tail (order_of k) f fs i h) in rw (before_found k f fs i s h) r

pub value_gap : (es : List (Edn × Edn)) (k : Edn) (i : ℕ) → IsGapAt (order_of k) es i → value_at es k ≡ None
value_gap [] k i h = refl
value_gap (f ∷ fs) k zero h = rw (turned k f.0 Greater (gap_here (order_of k) f fs h)) (value_gap fs k zero (gap_later (order_of k) f fs h))
value_gap (f ∷ fs) k (suc i) h = rw (turned k f.0 Less (gap_head (order_of k) f fs i h)) (value_gap fs k i (gap_tail (order_of k) f fs i h))
