-- Lists that ascend strictly by a total order: one more element in its place, and that there is one such list of the
-- same elements.
use Rattle.std.proofs.Common.{◌≡◌, zero, suc, ◌+◌, Bool, true, false, List, [], ◌∷◌, ◌++◌, refl, sym, ap, ◌∙◌, subst, inl, inr, arith, cond, get_or}
use Rattle.std.specs.Prelude.{◌⊎◌, IsPermutation, Contains}
use Rattle.std.specs.List.{AllByRecursion, IsDistinct, list_any}
use Rattle.std.specs.List.Sorted.{IsStrictlySortedBy, IsSortedBy}
use Rattle.std.specs.Ordering.{is_lt, is_eq, match_ordering, eq_by_cmp, ordering_reverse}
use Rattle.std.specs.declared.cmp.Ordering.{Ordering}
use Rattle.std.specs.declared.cmp.Ordering.TheVariants.{Less, Equal, Greater}
use Rattle.std.specs.Cmp.{IsTotalOrder, tied_itself, eq_by_cmp_equiv}
use Rattle.std.specs.BTreeSet.{insert_key}
use Rattle.std.specs.Set.{remove_key}
use Rattle.std.proofs.lemmas.Bool.{or_parts}
use Rattle.std.proofs.lemmas.List.Elements.{All-from_recursion, All-contains}
use Rattle.std.proofs.lemmas.List.Sorted.{IsPermutation-refl, IsPermutation-sym, IsPermutation-trans, IsPermutation-cons, IsPermutation-middle, IsPermutation-append_left, Contains-permutation}
use Rattle.std.proofs.lemmas.Map.Keys.{IsDistinct-head, IsDistinct-IsPermutation, sorted_head, sorted_tail, Less-from_sorted}

pub weaker : {X : Type 0} {P Q : X → Type 0} → ((x : X) → P x → Q x) → (xs : List X) → AllByRecursion P xs → AllByRecursion Q xs
weaker f [] h = tt
weaker f (x ∷ xs) h = (f x h.0, weaker f xs h.1)

none_of : {X : Type 0} (p : X → Bool) (xs ys : List X) → AllByRecursion (λ y. p y ≡ false) (xs ++ ys) → list_any p xs ≡ false
none_of p [] ys h = refl
none_of p (x ∷ xs) ys h = rw (h.0, none_of p xs ys h.1) refl

among : {X : Type 0} (y : X) (ys : List X) (x : X) → Contains (y ∷ ys) x → (y ≡ x) ⊎ Contains ys x
among y ys x (zero, h, e) = inl e
among y ys x (suc k, h, e) = inr (k, omega arith, e)

first_of : {X : Type 0} (x : X) (xs : List X) → Contains (x ∷ xs) x
first_of x xs = (0, omega arith, refl)

later_of : {X : Type 0} (y : X) (xs : List X) (x : X) → Contains xs x → Contains (y ∷ xs) x
later_of y xs x h = (suc h.0, omega arith, h.2)

module _ {X : Type 0} {c : X → X → Ordering} (o : IsTotalOrder c) where
  pub sorted_cons : (x y : X) (ys : List X) → c x y ≡ Less → IsStrictlySortedBy c (y ∷ ys) → IsStrictlySortedBy c (x ∷ y ∷ ys)
  unfolding IsStrictlySortedBy
  sorted_cons x y ys e s = ((e, weaker (λ z l. o.trans x y z e l) ys s.0), s)

  turned : (x y : X) → c x y ≡ Greater → c y x ≡ Less
  turned x y e = o.antisymm y x ∙ ap ordering_reverse e

  pub all_insert : (P : X → Type 0) (xs : List X) (x : X) → AllByRecursion P xs → P x → AllByRecursion P (insert_key c xs x)
  all_insert P [] x h p = (p, tt)
  all_insert P (y ∷ ys) x h p = by (c x y) (all_insert P ys x h.1 p)
    where
      by : (r : Ordering) → AllByRecursion P (insert_key c ys x) → AllByRecursion P (match_ordering r (x ∷ y ∷ ys) (y ∷ ys) (y ∷ insert_key c ys x))
      by Less k = (p, h)
      by Equal k = h
      by Greater k = (h.0, k)

  pub insert_sorted : (xs : List X) (x : X) → IsStrictlySortedBy c xs → IsStrictlySortedBy c (insert_key c xs x)
  unfolding IsStrictlySortedBy
  insert_sorted [] x s = (tt, tt)
  insert_sorted (y ∷ ys) x s = by (c x y) refl (insert_sorted ys x s.1)
    where
      by : (r : Ordering) → c x y ≡ r → IsStrictlySortedBy c (insert_key c ys x) → IsStrictlySortedBy c (match_ordering r (x ∷ y ∷ ys) (y ∷ ys) (y ∷ insert_key c ys x))
      by Less e k = sorted_cons x y ys e s
      by Equal e k = s
      by Greater e k = (all_insert (λ z. c y z ≡ Less) ys x s.0 (turned x y e), k)

  -- Where no element equals it, the list holds one more.
  pub insert_moves : (xs : List X) (x : X) → list_any (eq_by_cmp c x) xs ≡ false → IsPermutation (x ∷ xs) (insert_key c xs x)
  insert_moves [] x h = IsPermutation-refl (x ∷ [])
  insert_moves (y ∷ ys) x h = by (c x y) refl (insert_moves ys x ((or_parts (eq_by_cmp c x y) (list_any (eq_by_cmp c x) ys) h).1))
    where
      by : (r : Ordering) → c x y ≡ r → IsPermutation (x ∷ ys) (insert_key c ys x) → IsPermutation (x ∷ y ∷ ys) (match_ordering r (x ∷ y ∷ ys) (y ∷ ys) (y ∷ insert_key c ys x))
      by Less e k = IsPermutation-refl (x ∷ y ∷ ys)
      by Equal e k = let no = (or_parts (eq_by_cmp c x y) (list_any (eq_by_cmp c x) ys) h).0 in let yes = ap is_eq e in absurd cc
      by Greater e k = IsPermutation-trans _ _ _ (IsPermutation-sym _ _ (IsPermutation-middle (y ∷ []) x ys)) (IsPermutation-cons y _ _ k)

  below : (x : X) (xs : List X) (y : X) → IsStrictlySortedBy c (x ∷ xs) → Contains xs y → c x y ≡ Less
  below x xs y s h = All-contains (λ z. c x z ≡ Less) xs y (All-from_recursion (λ z. c x z ≡ Less) xs (sorted_head c x xs s)) h

  never : (x : X) → c x x ≡ Less → ⊥
  never x e = let f = tied_itself o x in absurd cc

  same_head : (x y : X) (xs ys : List X) → IsStrictlySortedBy c (x ∷ xs) → IsStrictlySortedBy c (y ∷ ys) → (y ≡ x) ⊎ Contains ys x → (x ≡ y) ⊎ Contains xs y → x ≡ y
  same_head x y xs ys s t (inl e) h = sym e
  same_head x y xs ys s t (inr e) (inl h) = h
  same_head x y xs ys s t (inr e) (inr h) = absurd (never x (o.trans x y x (below x xs y s h) (below y ys x t e)))

  in_tail : (x y z : X) (ys : List X) → x ≡ y → c x z ≡ Less → (y ≡ z) ⊎ Contains ys z → Contains ys z
  in_tail x y z ys e l (inl h) = absurd (never x (subst (λ w. c x w ≡ Less) (sym (e ∙ h)) l))
  in_tail x y z ys e l (inr h) = h

  one_list : (xs ys : List X) → IsStrictlySortedBy c xs → IsStrictlySortedBy c ys → ((z : X) → Contains xs z → Contains ys z) → ((z : X) → Contains ys z → Contains xs z) → xs ≡ ys
  one_list [] [] s t f g = refl
  one_list [] (y ∷ ys) s t f g = let no = (g y (first_of y ys)).1 in absurd (omega arith)
  one_list (x ∷ xs) [] s t f g = let no = (f x (first_of x xs)).1 in absurd (omega arith)
  one_list (x ∷ xs) (y ∷ ys) s t f g =
      let e : x ≡ y = same_head x y xs ys s t (among y ys x (f x (first_of x xs))) (among x xs y (g y (first_of y ys))) in
      let rest : xs ≡ ys = one_list xs ys (sorted_tail c x xs s) (sorted_tail c y ys t)
      (λ z h. in_tail x y z ys e (below x xs z s h) (among y ys z (f z (later_of x xs z h))))
      (λ z h. in_tail y x z xs (sym e) (below y ys z t h) (among x xs z (g z (later_of y ys z h)))) in
      λ i. e i ∷ rest i

  pub one_sorted : (xs ys : List X) → IsPermutation xs ys → IsStrictlySortedBy c xs → IsStrictlySortedBy c ys → xs ≡ ys
  one_sorted xs ys p s t = one_list xs ys s t (λ z. Contains-permutation xs ys z p) (λ z. Contains-permutation ys xs z (IsPermutation-sym xs ys p))

  pub flips : (x y : X) → eq_by_cmp c x y ≡ eq_by_cmp c y x
  flips x y = (eq_by_cmp_equiv o).symm x y

  to_front : (seen : List X) (x : X) (xs : List X) → IsDistinct (eq_by_cmp c) (seen ++ x ∷ xs) → IsDistinct (eq_by_cmp c) (x ∷ (seen ++ xs))
  to_front seen x xs d = IsDistinct-IsPermutation (eq_by_cmp c) flips (seen ++ x ∷ xs) (x ∷ (seen ++ xs)) (IsPermutation-middle seen x xs) d

  -- one element of some that all differ moves into its place
  pub apart : (seen : List X) (x : X) (xs : List X) → IsDistinct (eq_by_cmp c) (seen ++ x ∷ xs)
      → (list_any (eq_by_cmp c x) seen ≡ false) × IsDistinct (eq_by_cmp c) (insert_key c seen x ++ xs)
  apart seen x xs d =
      let front = to_front seen x xs d in
      let absent : list_any (eq_by_cmp c x) seen ≡ false = none_of (eq_by_cmp c x) seen xs (IsDistinct-head (eq_by_cmp c) x (seen ++ xs) front) in
      (absent, IsDistinct-IsPermutation (eq_by_cmp c) flips (x ∷ (seen ++ xs)) (insert_key c seen x ++ xs) (IsPermutation-append_left xs _ _ (insert_moves seen x absent)) front)

  all_remove : (P : X → Type 0) (test : X → Bool) (xs : List X) → AllByRecursion P xs → AllByRecursion P (remove_key test xs)
  all_remove P test [] h = tt
  all_remove P test (x ∷ xs) h = by (test x) (all_remove P test xs h.1)
    where
      by : (b : Bool) → AllByRecursion P (remove_key test xs) → AllByRecursion P (cond b xs (x ∷ remove_key test xs))
      by true k = h.1
      by false k = (h.0, k)

  pub remove_sorted : (test : X → Bool) (xs : List X) → IsStrictlySortedBy c xs → IsStrictlySortedBy c (remove_key test xs)
  unfolding IsStrictlySortedBy
  remove_sorted test [] s = tt
  remove_sorted test (x ∷ xs) s = by (test x) (remove_sorted test xs s.1)
    where
      by : (b : Bool) → IsStrictlySortedBy c (remove_key test xs) → IsStrictlySortedBy c (cond b xs (x ∷ remove_key test xs))
      by true k = s.1
      by false k = (all_remove (λ y. c x y ≡ Less) test xs s.0, k)

  -- what a binary search asks
  pub searchable : (xs : List X) → IsStrictlySortedBy c xs → IsSortedBy (λ x y. is_lt (c x y)) xs
  searchable xs s k d low less = ap is_lt (o.antisymm (get_or xs (k + 1) d) (get_or xs k d) ∙ ap ordering_reverse (Less-from_sorted c xs k (k + 1) d s (omega arith) less))
