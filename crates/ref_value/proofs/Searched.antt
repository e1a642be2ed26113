-- What a search finds in one side of a list in value order, as what it finds in the whole; and in single members.
use Rattle.std.proofs.Common.{◌≡◌, ◌<◌, ◌≤◌, ℕ, zero, suc, ◌+◌, true, false, List, [], ◌∷◌, ◌++◌, length, get_or, refl, sym, ap, ◌∙◌, subst, arith}
use Rattle.std.specs.Prelude.{IsTrue, Result, Ok, Err, IfOk, IfErr}
use Rattle.std.specs.List.{AllByRecursion}
use Rattle.std.specs.List.Sorted.{IsStrictlySortedBy}
use Rattle.std.specs.Ordering.{is_lt, ordering_reverse}
use Rattle.std.specs.declared.cmp.Ordering.{Ordering}
use Rattle.std.specs.declared.cmp.Ordering.TheVariants.{Less, Equal, Greater}
use Rattle.std.proofs.lemmas.List.Elements.{All-from_recursion}
use Rattle.ref_value.specs.Edn.{Edn, items_of, entries_of}
use Rattle.ref_value.specs.Order.{edn_cmp, elements_ascend, keys_ascend}
use Rattle.ref_value.specs.OrderLaws.{edn_cmp_total, edn_same}
use Rattle.ref_value.specs.Collections.{IsFoundAt, IsGapAt}
use Rattle.ref_value.specs.Members.{twins, singles}
use Rattle.ref_value.specs.Sides.{are_behind}
use Rattle.ref_value.proofs.Pairing.{length_singles, length_twins, singles_twins, singles_ascend}
use Rattle.ref_value.proofs.Places.{gap_tail, gap_head, gap_here, gap_later}
use Rattle.ref_value.specs.AscendLaws.{by_key, sorted_from_keys_ascend, keys_ascend_from_sorted}

-- ---- places in a longer list

module _ {X : Type 0} (order : X → Ordering) where
  gap_cons : (y : X) (ys : List X) (i : ℕ) → order y ≡ Less → IsGapAt order ys i → IsGapAt order (y ∷ ys) (suc i)
  gap_cons y ys i e h = record {
    in_range = omega (arith, h.in_range);
    lesser = lesser;
    greater = greater;
  }
    where
      lesser : (k : ℕ) (d : X) → 0 ≤ k → k < suc i → order (get_or (y ∷ ys) k d) ≡ Less
      lesser zero d a b = e
      lesser (suc k) d a b = h.lesser k d (omega arith) (omega arith)

      greater : (k : ℕ) (d : X) → suc i ≤ k → k < length (y ∷ ys) → order (get_or (y ∷ ys) k d) ≡ Greater
      greater zero d a b = absurd (omega arith)
      greater (suc k) d a b = h.greater k d (omega arith) (omega arith)

  found_cons : (y : X) (ys : List X) (i : ℕ) → IsFoundAt order ys i → IsFoundAt order (y ∷ ys) (suc i)
  found_cons y ys i h = record { in_range = omega (arith, h.in_range); equal = λ d. h.equal d }

  gap_first : (ys : List X) → AllByRecursion (λ y. order y ≡ Greater) ys → IsGapAt order ys 0
  gap_first ys h = record {
    in_range = omega arith;
    lesser = λ k d a b. absurd (omega arith);
    greater = λ k d a b. All-from_recursion (λ y. order y ≡ Greater) ys h k d b;
  }

  all_greater : (xs ys : List X) → IsGapAt order xs zero → AllByRecursion (λ y. order y ≡ Greater) ys → AllByRecursion (λ y. order y ≡ Greater) (xs ++ ys)
  all_greater [] ys h g = g
  all_greater (x ∷ xs) ys h g = (gap_here order x xs h, all_greater xs ys (gap_later order x xs h) g)

  gap_before : (xs ys : List X) (i : ℕ) → AllByRecursion (λ y. order y ≡ Greater) ys → IsGapAt order xs i → IsGapAt order (xs ++ ys) i
  gap_before xs ys zero g h = gap_first (xs ++ ys) (all_greater xs ys h g)
  gap_before [] ys (suc i) g h = let in_range = h.in_range in absurd (omega arith)
  gap_before (x ∷ xs) ys (suc i) g h = gap_cons x (xs ++ ys) i (gap_head order x xs i h) (gap_before xs ys i g (gap_tail order x xs i h))

  gap_after : (xs ys : List X) (i j : ℕ) → i ≡ length xs + j → AllByRecursion (λ y. order y ≡ Less) xs → IsGapAt order ys j → IsGapAt order (xs ++ ys) i
  gap_after [] ys i j e a h = let same : j ≡ i = omega arith in subst (λ n. IsGapAt order ys n) same h
  gap_after (x ∷ xs) ys zero j e a h = absurd (omega arith)
  gap_after (x ∷ xs) ys (suc i) j e a h = gap_cons x (xs ++ ys) i a.0 (gap_after xs ys i j (omega arith) a.1 h)

  found_after : (xs ys : List X) (i j : ℕ) → i ≡ length xs + j → IsFoundAt order ys j → IsFoundAt order (xs ++ ys) i
  found_after [] ys i j e h = let same : j ≡ i = omega arith in subst (λ n. IsFoundAt order ys n) same h
  found_after (x ∷ xs) ys zero j e h = absurd (omega arith)
  found_after (x ∷ xs) ys (suc i) j e h = found_cons x (xs ++ ys) i (found_after xs ys i j (omega arith) h)

-- ---- both sides of a list in value order

sorted_left : (xs ys : List (Edn × Edn)) → IsStrictlySortedBy by_key (xs ++ ys) → IsStrictlySortedBy by_key xs
unfolding IsStrictlySortedBy
sorted_left [] ys s = tt
sorted_left (x ∷ xs) ys s = (front xs s.0, sorted_left xs ys s.1)
  where
    front : (zs : List (Edn × Edn)) → AllByRecursion (λ z. by_key x z ≡ Less) (zs ++ ys) → AllByRecursion (λ z. by_key x z ≡ Less) zs
    front [] h = tt
    front (z ∷ zs) h = (h.0, front zs h.1)

sorted_right : (xs ys : List (Edn × Edn)) → IsStrictlySortedBy by_key (xs ++ ys) → IsStrictlySortedBy by_key ys
unfolding IsStrictlySortedBy
sorted_right [] ys s = s
sorted_right (x ∷ xs) ys s = sorted_right xs ys s.1

pub left_ascends : (xs ys : List (Edn × Edn)) → IsTrue (keys_ascend (entries_of (xs ++ ys))) → IsTrue (keys_ascend (entries_of xs))
left_ascends xs ys up = keys_ascend_from_sorted xs (sorted_left xs ys (sorted_from_keys_ascend (xs ++ ys) up))

pub right_ascends : (xs ys : List (Edn × Edn)) → IsTrue (keys_ascend (entries_of (xs ++ ys))) → IsTrue (keys_ascend (entries_of ys))
right_ascends xs ys up = keys_ascend_from_sorted ys (sorted_right xs ys (sorted_from_keys_ascend (xs ++ ys) up))

less_than : (a b : Edn) → is_lt (edn_cmp a b) ≡ true → edn_cmp a b ≡ Less
less_than a b h = by (edn_cmp a b) h
  where
    by : (r : Ordering) → is_lt r ≡ true → r ≡ Less
    by Less e = refl
    by Equal e = cc
    by Greater e = cc

greater : (a b : Edn) → edn_cmp a b ≡ Less → edn_cmp b a ≡ Greater
greater a b e = edn_cmp_total.antisymm b a ∙ ap ordering_reverse e

all_behind : (ys : List (Edn × Edn)) (k : Edn) → IsStrictlySortedBy by_key ys → are_behind ys k ≡ true → AllByRecursion (λ e. edn_cmp e.0 k ≡ Greater) ys
unfolding IsStrictlySortedBy
all_behind [] k s h = tt
all_behind (y ∷ ys) k s h = (greater k y.0 first, later ys s.0)
  where
    first : edn_cmp k y.0 ≡ Less
    first = less_than k y.0 h

    later : (zs : List (Edn × Edn)) → AllByRecursion (λ z. by_key y z ≡ Less) zs → AllByRecursion (λ e. edn_cmp e.0 k ≡ Greater) zs
    later [] a = tt
    later (z ∷ zs) a = (greater k z.0 (edn_cmp_total.trans k y.0 z.0 first a.0), later zs a.1)

-- what stands before one that doesn't stand behind the key
before : (x y k : Edn) → edn_cmp x y ≡ Less → is_lt (edn_cmp k y) ≡ false → edn_cmp x k ≡ Less
before x y k e h = by (edn_cmp k y) refl h
  where
    by : (r : Ordering) → edn_cmp k y ≡ r → is_lt r ≡ false → edn_cmp x k ≡ Less
    by Less f g = cc
    by Equal f g = subst (λ z. edn_cmp x z ≡ Less) (sym (edn_same k y f)) e
    by Greater f g = edn_cmp_total.trans x y k e (edn_cmp_total.antisymm y k ∙ ap ordering_reverse f)

all_before : (xs ys : List (Edn × Edn)) (k : Edn) → IsStrictlySortedBy by_key (xs ++ ys) → are_behind ys k ≡ false → AllByRecursion (λ e. edn_cmp e.0 k ≡ Less) xs
unfolding IsStrictlySortedBy
all_before xs [] k s h = cc
all_before [] (y ∷ ys) k s h = tt
all_before (x ∷ xs) (y ∷ ys) k s h = (before x.0 y.0 k (reach xs s.0) h, all_before xs (y ∷ ys) k s.1 h)
  where
    reach : (zs : List (Edn × Edn)) → AllByRecursion (λ z. by_key x z ≡ Less) (zs ++ y ∷ ys) → edn_cmp x.0 y.0 ≡ Less
    reach [] a = a.0
    reach (z ∷ zs) a = reach zs a.1

pub missed_left : (xs ys : List (Edn × Edn)) (k : Edn) (i : ℕ) → IsTrue (keys_ascend (entries_of (xs ++ ys))) → are_behind ys k ≡ true → IsGapAt (λ e. edn_cmp e.0 k) xs i
    → IsGapAt (λ e. edn_cmp e.0 k) (xs ++ ys) i
missed_left xs ys k i up b h = gap_before (λ e. edn_cmp e.0 k) xs ys i (all_behind ys k (sorted_right xs ys (sorted_from_keys_ascend (xs ++ ys) up)) b) h

pub found_right : (xs ys : List (Edn × Edn)) (k : Edn) (j : ℕ) → IsFoundAt (λ e. edn_cmp e.0 k) ys j → IsFoundAt (λ e. edn_cmp e.0 k) (xs ++ ys) (length xs + j)
found_right xs ys k j h = found_after (λ e. edn_cmp e.0 k) xs ys (length xs + j) j refl h

pub missed_right : (xs ys : List (Edn × Edn)) (k : Edn) (j : ℕ) → IsTrue (keys_ascend (entries_of (xs ++ ys))) → are_behind ys k ≡ false → IsGapAt (λ e. edn_cmp e.0 k) ys j
    → IsGapAt (λ e. edn_cmp e.0 k) (xs ++ ys) (length xs + j)
missed_right xs ys k j up b h = gap_after (λ e. edn_cmp e.0 k) xs ys (length xs + j) j refl (all_before xs ys k (sorted_from_keys_ascend (xs ++ ys) up) b) h

-- ---- single members

single_at : (es : List (Edn × Edn)) (i : ℕ) (d : Edn × Edn) → (get_or es i d).0 ≡ get_or (singles es) i d.0
single_at [] i d = refl
single_at (e ∷ es) zero d = refl
single_at (e ∷ es) (suc i) d = single_at es i d

pub singles_found : (es : List (Edn × Edn)) (k : Edn) (i : ℕ) → IsFoundAt (λ e. edn_cmp e.0 k) es i → IsFoundAt (λ y. edn_cmp y k) (singles es) i
singles_found es k i h = record {
  in_range = omega (arith, h.in_range, length_singles es);
  equal = λ d. rw (← single_at es i (d, d)) (h.equal (d, d));
}

pub singles_missed : (es : List (Edn × Edn)) (k : Edn) (i : ℕ) → IsGapAt (λ e. edn_cmp e.0 k) es i → IsGapAt (λ y. edn_cmp y k) (singles es) i
singles_missed es k i h = record {
  in_range = omega (arith, h.in_range, length_singles es);
  lesser = λ j d a b. rw (← single_at es j (d, d)) (h.lesser j (d, d) a b);
  greater = λ j d a b. rw (← single_at es j (d, d)) (h.greater j (d, d) a (omega (arith, length_singles es)));
}

pub twins_ascend : (xs : List Edn) → keys_ascend (entries_of (twins xs)) ≡ elements_ascend (items_of xs)
twins_ascend xs = singles_ascend (twins xs) ∙ ap (λ ys. elements_ascend (items_of ys)) (singles_twins xs)

twin_at : (xs : List Edn) (i : ℕ) (d : Edn × Edn) → (get_or (twins xs) i d).0 ≡ get_or xs i d.0
twin_at xs i d = single_at (twins xs) i d ∙ ap (λ ys. get_or ys i d.0) (singles_twins xs)

pub twins_found : (xs : List Edn) (k : Edn) (i : ℕ) → IsFoundAt (λ y. edn_cmp y k) xs i → IsFoundAt (λ e. edn_cmp e.0 k) (twins xs) i
twins_found xs k i h = record {
  in_range = omega (arith, h.in_range, length_twins xs);
  equal = λ d. rw (twin_at xs i d) (h.equal d.0);
}

pub twins_missed : (xs : List Edn) (k : Edn) (i : ℕ) → IsGapAt (λ y. edn_cmp y k) xs i → IsGapAt (λ e. edn_cmp e.0 k) (twins xs) i
twins_missed xs k i h = record {
  in_range = omega (arith, h.in_range, length_twins xs);
  lesser = λ j d a b. rw (twin_at xs j d) (h.lesser j d.0 a b);
  greater = λ j d a b. rw (twin_at xs j d) (h.greater j d.0 a (omega (arith, length_twins xs)));
}

-- what a search tells of values, of them as pairs
pub twins_all_found : (xs : List Edn) (k : Edn) (r : Result ℕ ℕ) → IfOk r (IsFoundAt (λ y. edn_cmp y k) xs) → IfOk r (IsFoundAt (λ e. edn_cmp e.0 k) (twins xs))
twins_all_found xs k (Ok i) h = twins_found xs k i h
twins_all_found xs k (Err i) h = tt

pub twins_all_missed : (xs : List Edn) (k : Edn) (r : Result ℕ ℕ) → IfErr r (IsGapAt (λ y. edn_cmp y k) xs) → IfErr r (IsGapAt (λ e. edn_cmp e.0 k) (twins xs))
twins_all_missed xs k (Ok i) h = tt
twins_all_missed xs k (Err i) h = twins_missed xs k i h

-- what a search tells of the left side
pub left_all_missed : (xs ys : List (Edn × Edn)) (k : Edn) (r : Result ℕ ℕ) → IsTrue (keys_ascend (entries_of (xs ++ ys))) → are_behind ys k ≡ true → IfErr r (IsGapAt (λ e. edn_cmp e.0 k) xs)
    → IfErr r (IsGapAt (λ e. edn_cmp e.0 k) (xs ++ ys))
left_all_missed xs ys k (Ok i) up b h = tt
left_all_missed xs ys k (Err i) up b h = missed_left xs ys k i up b h

-- what a search tells of pairs, of the first of each
pub singles_all_found : (es : List (Edn × Edn)) (k : Edn) (r : Result ℕ ℕ) → IfOk r (IsFoundAt (λ e. edn_cmp e.0 k) es) → IfOk r (IsFoundAt (λ y. edn_cmp y k) (singles es))
singles_all_found es k (Ok i) h = singles_found es k i h
singles_all_found es k (Err i) h = tt

pub singles_all_missed : (es : List (Edn × Edn)) (k : Edn) (r : Result ℕ ℕ) → IfErr r (IsGapAt (λ e. edn_cmp e.0 k) es) → IfErr r (IsGapAt (λ y. edn_cmp y k) (singles es))
singles_all_missed es k (Ok i) h = tt
singles_all_missed es k (Err i) h = singles_missed es k i h
