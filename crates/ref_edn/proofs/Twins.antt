-- Marks sorted by their elements, and of equals the earlier one first: the first that is there twice stands behind an
-- equal neighbour, and has the most bytes left of all that do.
use Rattle.std.proofs.Common.{◌≡◌, ℕ, zero, suc, ◌+◌, ◌<◌, ◌≤◌, Bool, true, false, not, cond, List, [], ◌∷◌, ◌++◌, length, get_or, drop, refl, sym, ap, ◌∙◌, subst, arith, append-nil, length-drop, drop-cons, sub-one, ◌-◌}
use Rattle.std.specs.Prelude.{◌||◌, ◌&&◌, IsTrue, IsPermutation, max}
use Rattle.std.specs.List.{AllByRecursion, IsDistinct, list_any}
use Rattle.std.specs.List.Sorted.{IsSorted, IsStrictlySortedBy}
use Rattle.std.specs.Ordering.{is_lt, is_eq, nat_cmp, ordering_then, ordering_reverse, match_ordering, eq_by_cmp, ord_max}
use Rattle.std.specs.declared.cmp.Ordering.{Ordering}
use Rattle.std.specs.declared.cmp.Ordering.TheVariants.{Less, Equal, Greater}
use Rattle.std.specs.Cmp.{IsTotalOrder, on_total, back_total, tied_back}
use Rattle.std.proofs.lemmas.Cmp.{then_total, nat_cmp_total}
use Rattle.std.specs.BTreeSet.{insert_key}
use Rattle.std.proofs.Math.ListN.{get_or-map}
use Rattle.std.proofs.lemmas.List.{length-map}
use Rattle.std.proofs.lemmas.List.Elements.{All-from_recursion, recursion_from_All}
use Rattle.std.proofs.lemmas.Bool.Decides.{nat_tests}
use Rattle.std.proofs.lemmas.List.Sorted.{All-permutation, IsPermutation-map, IsPermutation-sym, IsPermutation-trans, IsPermutation-middle, IsPermutation-append_left}
use Rattle.std.proofs.lemmas.Map.Keys.{IsDistinct-IsPermutation, apart_from_distinct, sorted_from_all_adjacent}
use Rattle.ref_value.specs.Edn.{Edn, nil, items_of, entries_of}
use Rattle.ref_value.specs.Order.{edn_cmp, elements_ascend, keys_ascend}
use Rattle.ref_value.specs.OrderLaws.{edn_cmp_total, edn_same}
use Rattle.ref_edn.specs.Sorting.{is_among}
use Rattle.ref_edn.specs.Marks.{Mark, left_at, elements_of, keys_of, pairs_of, Falls, first_twice, twin_after, twin_left}
use Rattle.ref_value.specs.SortedLists.{weaker, all_insert, one_sorted, insert_sorted, insert_moves, apart, flips}

-- ---- the order

abbrev pub mark_cmp : Mark → Mark → Ordering
mark_cmp m n = ordering_then (edn_cmp m.0 n.0) (nat_cmp (left_at n) (left_at m))

mark_total : IsTotalOrder mark_cmp
mark_total = then_total (on_total (λ (m : Mark). m.0) edn_cmp_total) (back_total (on_total left_at nat_cmp_total))

fewer : (a b : ℕ) → a < b → nat_cmp a b ≡ Less
fewer a b h = grind (arith, nat_tests)

not_fewer : (a b : ℕ) → a < b → nat_cmp b a ≡ Less → ⊥
not_fewer a b h e = let f = nat_cmp_total.antisymm b a in let g = fewer a b h in absurd cc

-- where fewer bytes are left at the second
not_tied : (m n : Mark) → left_at n < left_at m → eq_by_cmp mark_cmp m n ≡ false
not_tied m n h = by (edn_cmp m.0 n.0)
  where
    by : (r : Ordering) → is_eq (ordering_then r (nat_cmp (left_at n) (left_at m))) ≡ false
    by Less = refl
    by Equal = rw (fewer (left_at n) (left_at m) h) refl
    by Greater = refl

-- ---- marks that stand in order

falls_apart : (ms : List Mark) → Falls ms → IsDistinct (eq_by_cmp mark_cmp) ms
unfolding IsDistinct
falls_apart [] h = tt
falls_apart (m ∷ ms) h = (weaker (λ n k. not_tied m n k) ms h.1, falls_apart ms h.2)

less_of : (r s : Ordering) → r ≡ ordering_reverse s → is_lt s ≡ false → is_eq r ≡ false → r ≡ Less
less_of Less s e l q = refl
less_of Equal s e l q = absurd cc
less_of Greater Less e l q = absurd cc
less_of Greater Equal e l q = absurd cc
less_of Greater Greater e l q = absurd cc

strict : (ms : List Mark) → IsSorted mark_cmp ms → IsDistinct (eq_by_cmp mark_cmp) ms → IsStrictlySortedBy mark_cmp ms
unfolding IsStrictlySortedBy
strict [] up differ = tt
strict (m ∷ ms) up differ =
    sorted_from_all_adjacent mark_total (m ∷ ms) m
    (λ k h. less_of (mark_cmp (get_or (m ∷ ms) k m) (get_or (m ∷ ms) (k + 1) m)) (mark_cmp (get_or (m ∷ ms) (k + 1) m) (get_or (m ∷ ms) k m)) (mark_total.antisymm (get_or (m ∷ ms) k m) (get_or (m ∷ ms) (k + 1) m)) (up k m (omega arith) h)
    (apart_from_distinct (eq_by_cmp mark_cmp) (m ∷ ms) k (k + 1) m differ (omega arith) h))

-- ---- neighbours in order

-- what stands before by the marks' order, where fewer bytes are left at the second
level : (m n : Mark) → mark_cmp m n ≡ Less → is_lt (edn_cmp m.0 n.0) ≡ not (is_eq (edn_cmp n.0 m.0))
level m n e = by (edn_cmp m.0 n.0) (edn_cmp n.0 m.0) (edn_cmp_total.antisymm n.0 m.0) e
  where
    by : (r s : Ordering) → s ≡ ordering_reverse r → ordering_then r (nat_cmp (left_at n) (left_at m)) ≡ Less → is_lt r ≡ not (is_eq s)
    by Less s t f = rw t refl
    by Equal s t f = rw t refl
    by Greater s t f = absurd cc

-- where more bytes are left at the second
stands_before : (m n : Mark) → left_at m < left_at n → mark_cmp m n ≡ Less → edn_cmp m.0 n.0 ≡ Less
stands_before m n h e = by (edn_cmp m.0 n.0) e
  where
    by : (r : Ordering) → ordering_then r (nat_cmp (left_at n) (left_at m)) ≡ Less → r ≡ Less
    by Less f = refl
    by Equal f = absurd (not_fewer (left_at m) (left_at n) h f)
    by Greater f = absurd cc

abbrev is_marked : Edn → List Mark → Bool
is_marked x ms = list_any (λ m. is_eq (edn_cmp x m.0)) ms

before_later : (x : Edn) (m n : Mark) → edn_cmp x m.0 ≡ Less → mark_cmp m n ≡ Less → is_eq (edn_cmp x n.0) ≡ false
before_later x m n e f = by (edn_cmp m.0 n.0) refl f
  where
    by : (r : Ordering) → edn_cmp m.0 n.0 ≡ r → ordering_then r (nat_cmp (left_at n) (left_at m)) ≡ Less → is_eq (edn_cmp x n.0) ≡ false
    by Less g k = ap is_eq (edn_cmp_total.trans x m.0 n.0 e g)
    by Equal g k = ap is_eq (subst (λ y. edn_cmp x y ≡ Less) (edn_same m.0 n.0 g) e)
    by Greater g k = absurd cc

none_behind : (x : Edn) (m : Mark) (ms : List Mark) → edn_cmp x m.0 ≡ Less → AllByRecursion (λ n. mark_cmp m n ≡ Less) ms → is_marked x ms ≡ false
none_behind x m [] e h = refl
none_behind x m (n ∷ ns) e h = rw (before_later x m n e h.0, none_behind x m ns e h.1) refl

-- What equals both ends equals all between.
between : (l m n : Mark) → mark_cmp l m ≡ Less → mark_cmp m n ≡ Less → is_eq (edn_cmp n.0 l.0) ≡ true → is_eq (edn_cmp n.0 m.0) ≡ true
between l m n e f same = by (edn_cmp n.0 m.0) refl
  where
    n_is : n.0 ≡ l.0
    n_is = edn_same n.0 l.0 (equal_of (edn_cmp n.0 l.0) same)
      where
        equal_of : (r : Ordering) → is_eq r ≡ true → r ≡ Equal
        equal_of Less h = absurd cc
        equal_of Equal h = refl
        equal_of Greater h = absurd cc

    by : (r : Ordering) → edn_cmp n.0 m.0 ≡ r → is_eq r ≡ true
    by Less g = let back = edn_cmp_total.antisymm m.0 n.0 ∙ ap ordering_reverse g in absurd (not_less (edn_cmp m.0 n.0) back f)
      where
        not_less : (r : Ordering) → r ≡ Greater → ordering_then r (nat_cmp (left_at n) (left_at m)) ≡ Less → ⊥
        not_less Less p q = absurd cc
        not_less Equal p q = absurd cc
        not_less Greater p q = absurd cc
    by Equal g = refl
    by Greater g = absurd (not_less (edn_cmp l.0 m.0) (subst (λ y. edn_cmp y m.0 ≡ Greater) n_is g) e)
      where
        not_less : (r : Ordering) → r ≡ Greater → ordering_then r (nat_cmp (left_at m) (left_at l)) ≡ Less → ⊥
        not_less Less p q = absurd cc
        not_less Equal p q = absurd cc
        not_less Greater p q = absurd cc

-- ---- one more mark, at which fewer bytes are left than at all others

twin_of : (a : Bool) (n : ℕ) → cond (not a) 0 n ≡ cond a n 0
twin_of true n = refl
twin_of false n = refl

equal_next : (m n : Mark) → mark_cmp m n ≡ Less → cond (is_lt (edn_cmp m.0 n.0)) 0 (left_at n) ≡ cond (is_eq (edn_cmp n.0 m.0)) (left_at n) 0
equal_next m n e = rw (level m n e) (twin_of (is_eq (edn_cmp n.0 m.0)) (left_at n))

joins : (a b c : Bool) (t u v : ℕ) → (a ≡ true → b ≡ true) → max t (max u (cond (b || c) v 0)) ≡ max (max t u) (cond (a || (b || c)) v 0)
joins true true c t u v h = omega arith
joins true false c t u v h = let no = h refl in absurd cc
joins false true c t u v h = omega arith
joins false false true t u v h = omega arith
joins false false false t u v h = omega arith

alone : (a : Bool) (t v : ℕ) → max (cond a v 0) (max 0 t) ≡ max (max 0 t) (cond (a || false) v 0)
alone true t v = omega arith
alone false t v = omega arith

module _ (x : Mark) where
  -- behind a mark that stands before it
  behind : (m : Mark) (ms : List Mark) → IsStrictlySortedBy mark_cmp (m ∷ ms) → mark_cmp m x ≡ Less → AllByRecursion (λ n. left_at x < left_at n) ms
      → twin_after m (insert_key mark_cmp ms x) ≡ max (twin_after m ms) (cond (is_eq (edn_cmp x.0 m.0) || is_marked x.0 ms) (left_at x) 0)
  unfolding IsStrictlySortedBy
  behind m [] s e h = rw (equal_next m x e) (alone (is_eq (edn_cmp x.0 m.0)) 0 (left_at x))
  behind m (n ∷ ns) s e h = by (mark_cmp x n) refl (λ after. behind n ns s.1 after h.1)
    where
      by : (r : Ordering) → mark_cmp x n ≡ r
          → (mark_cmp n x ≡ Less → twin_after n (insert_key mark_cmp ns x) ≡ max (twin_after n ns) (cond (is_eq (edn_cmp x.0 n.0) || is_marked x.0 ns) (left_at x) 0))
          → twin_after m (match_ordering r (x ∷ n ∷ ns) (n ∷ ns) (n ∷ insert_key mark_cmp ns x)) ≡ max (twin_after m (n ∷ ns)) (cond (is_eq (edn_cmp x.0 m.0) || is_marked x.0 (n ∷ ns)) (left_at x) 0)
      by Less f rest =
          let less = stands_before x n h.0 f in
          let none = none_behind x.0 n ns less s.1.0 in
          let first : cond (is_lt (edn_cmp x.0 n.0)) 0 (left_at n) ≡ 0 = rw less refl in
          let second : cond (is_lt (edn_cmp m.0 n.0)) 0 (left_at n) ≡ 0 = rw (passes m x n e less) refl in
          let apart : is_eq (edn_cmp x.0 n.0) ≡ false = ap is_eq less in
          rw (equal_next m x e, first, second, apart, none) (alone (is_eq (edn_cmp x.0 m.0)) (twin_after n ns) (left_at x))
        where
          passes : (m x n : Mark) → mark_cmp m x ≡ Less → edn_cmp x.0 n.0 ≡ Less → edn_cmp m.0 n.0 ≡ Less
          passes m x n e f = go (edn_cmp m.0 x.0) refl e
            where
              go : (r : Ordering) → edn_cmp m.0 x.0 ≡ r → ordering_then r (nat_cmp (left_at x) (left_at m)) ≡ Less → edn_cmp m.0 n.0 ≡ Less
              go Less p q = edn_cmp_total.trans m.0 x.0 n.0 p f
              go Equal p q = edn_cmp_total.congr m.0 x.0 n.0 p ∙ f
              go Greater p q = absurd cc
      by Equal f rest = let no = not_tied n x h.0 in let back = tied_back mark_total x n f in let yes = ap is_eq back in absurd cc
      by Greater f rest =
          let after : mark_cmp n x ≡ Less = mark_total.antisymm n x ∙ ap ordering_reverse f in
          rw (rest after) (joins (is_eq (edn_cmp x.0 m.0)) (is_eq (edn_cmp x.0 n.0)) (is_marked x.0 ns) (cond (is_lt (edn_cmp m.0 n.0)) 0 (left_at n)) (twin_after n ns) (left_at x) (between m n x s.0.0 after))

  one_more : (ms : List Mark) → IsStrictlySortedBy mark_cmp ms → AllByRecursion (λ n. left_at x < left_at n) ms → twin_left (insert_key mark_cmp ms x) ≡ max (twin_left ms) (cond (is_marked x.0 ms) (left_at x) 0)
  unfolding IsStrictlySortedBy
  one_more [] s h = refl
  one_more (n ∷ ns) s h = by (mark_cmp x n) refl
    where
      by : (r : Ordering) → mark_cmp x n ≡ r → twin_left (match_ordering r (x ∷ n ∷ ns) (n ∷ ns) (n ∷ insert_key mark_cmp ns x)) ≡ max (twin_after n ns) (cond (is_marked x.0 (n ∷ ns)) (left_at x) 0)
      by Less f =
          let less = stands_before x n h.0 f in
          let first : cond (is_lt (edn_cmp x.0 n.0)) 0 (left_at n) ≡ 0 = rw less refl in
          let apart : is_eq (edn_cmp x.0 n.0) ≡ false = ap is_eq less in
          rw (first, apart, none_behind x.0 n ns less s.0) (omega arith)
      by Equal f = let no = not_tied n x h.0 in let back = tied_back mark_total x n f in let yes = ap is_eq back in absurd cc
      by Greater f = behind n ns s (mark_total.antisymm n x ∙ ap ordering_reverse f) h.1

-- ---- what is among them

module _ {X : Type 0} (c : X → X → Ordering) (p : X → Bool) (alike : (x y : X) → c x y ≡ Equal → p x ≡ p y) where
  any_insert : (xs : List X) (x : X) → list_any p (insert_key c xs x) ≡ (p x || list_any p xs)
  any_insert [] x = refl
  any_insert (y ∷ ys) x = by (c x y) refl (any_insert ys x)
    where
      absorbs : (a b : Bool) → (a || b) ≡ (a || (a || b))
      absorbs true b = refl
      absorbs false b = refl

      turns : (a b d : Bool) → (a || (b || d)) ≡ (b || (a || d))
      turns true true d = refl
      turns true false d = refl
      turns false b d = refl

      by : (r : Ordering) → c x y ≡ r → list_any p (insert_key c ys x) ≡ (p x || list_any p ys) → list_any p (match_ordering r (x ∷ y ∷ ys) (y ∷ ys) (y ∷ insert_key c ys x)) ≡ (p x || (p y || list_any p ys))
      by Less e k = refl
      by Equal e k = rw (alike x y e) (absorbs (p y) (list_any p ys))
      by Greater e k = rw k (turns (p y) (p x) (list_any p ys))

same_mark : (k : Edn) (m n : Mark) → mark_cmp m n ≡ Equal → is_eq (edn_cmp k m.0) ≡ is_eq (edn_cmp k n.0)
same_mark k m n e = ap (λ x. is_eq (edn_cmp k x)) (edn_same m.0 n.0 (by (edn_cmp m.0 n.0) e))
  where
    by : (r : Ordering) → ordering_then r (nat_cmp (left_at n) (left_at m)) ≡ Equal → r ≡ Equal
    by Less f = absurd cc
    by Equal f = refl
    by Greater f = absurd cc

abbrev SameMembers : List Edn → List Mark → Type 0
SameMembers known seen = (k : Edn) → is_among k known ≡ is_marked k seen

same_more : (known : List Edn) (seen : List Mark) (m : Mark) → SameMembers known seen → SameMembers (insert_key edn_cmp known m.0) (insert_key mark_cmp seen m)
same_more known seen m h k =
    any_insert edn_cmp (λ y. is_eq (edn_cmp k y)) (λ x y e. ap (λ z. is_eq (edn_cmp k z)) (edn_same x y e)) known m.0
    ∙ ap (λ b. is_eq (edn_cmp k m.0) || b) (h k)
    ∙ sym (any_insert mark_cmp (λ n. is_eq (edn_cmp k n.0)) (same_mark k) seen m)

-- ---- all of them

below : (known : List Edn) (ms : List Mark) (n : ℕ) → AllByRecursion (λ m. left_at m < n) ms → first_twice known ms ≤ n
below known [] n h = omega arith
below known (m ∷ ms) n h = by (is_among m.0 known) (below (insert_key edn_cmp known m.0) ms n h.1)
  where
    by : (b : Bool) → first_twice (insert_key edn_cmp known m.0) ms ≤ n → cond b (left_at m) (first_twice (insert_key edn_cmp known m.0) ms) ≤ n
    by true k = omega (arith, h.0)
    by false k = k

meets : (b : Bool) (t u l f : ℕ) → f ≤ l → u ≡ max (max t (cond b l 0)) f → u ≡ max t (cond b l f)
meets true t u l f h e = omega arith
meets false t u l f h e = omega arith

twins_from : (n : ℕ) (known : List Edn) (seen ms sorted : List Mark) → SameMembers known seen → AllByRecursion (λ m. n ≤ left_at m) seen → AllByRecursion (λ m. left_at m < n) ms → Falls ms
    → IsStrictlySortedBy mark_cmp seen → IsDistinct (eq_by_cmp mark_cmp) (seen ++ ms) → IsPermutation (seen ++ ms) sorted → IsStrictlySortedBy mark_cmp sorted → twin_left sorted ≡ max (twin_left seen) (first_twice known ms)
twins_from n known seen [] sorted same above under falls s d p u =
    let is : seen ≡ sorted = one_sorted mark_total seen sorted (rw append-nil at p) s u in
    let e : twin_left sorted ≡ twin_left seen = ap twin_left (sym is) in
    omega (arith, e)
twins_from n known seen (m ∷ ms) sorted same above under falls s d p u =
    let q = apart mark_total seen m ms d in
    let moves = IsPermutation-append_left ms _ _ (IsPermutation-sym _ _ (insert_moves mark_total seen m q.0)) in
    let moved = IsPermutation-trans _ _ _ moves (IsPermutation-trans _ _ _ (IsPermutation-sym _ _ (IsPermutation-middle seen m ms)) p) in
    let higher : AllByRecursion (λ k. left_at m ≤ left_at k) seen = weaker (λ k h. omega (arith, under.0)) seen above in
    let strictly : AllByRecursion (λ k. left_at m < left_at k) seen = weaker (λ k h. omega (arith, under.0)) seen above in
    let rest = twins_from (left_at m) (insert_key edn_cmp known m.0) (insert_key mark_cmp seen m) ms sorted (same_more known seen m same) (all_insert mark_total (λ k. left_at m ≤ left_at k) seen m higher (omega arith)) falls.1 falls.2
    (insert_sorted mark_total seen m s) q.1 moved u in
    let here = one_more m seen s strictly in
    let e : twin_left sorted ≡ max (max (twin_left seen) (cond (is_among m.0 known) (left_at m) 0)) (first_twice (insert_key edn_cmp known m.0) ms) = rw (same m.0) (rw here at rest) in
    meets (is_among m.0 known) (twin_left seen) (twin_left sorted) (left_at m) (first_twice (insert_key edn_cmp known m.0) ms) (below (insert_key edn_cmp known m.0) ms (left_at m) falls.1) e

under_head : (ms : List Mark) → Falls ms → (n : ℕ) × AllByRecursion (λ m. left_at m < n) ms
under_head [] h = (0, tt)
under_head (m ∷ ms) h = (left_at m + 1, (omega arith, weaker (λ n k. omega arith) ms h.1))

pub twins : (ms sorted : List Mark) → Falls ms → IsPermutation ms sorted → IsSorted mark_cmp sorted → twin_left sorted ≡ first_twice [] ms
unfolding IsStrictlySortedBy
twins ms sorted falls p up =
    let differ = falls_apart ms falls in
    let apart_so = IsDistinct-IsPermutation (eq_by_cmp mark_cmp) (flips mark_total) ms sorted p differ in
    let q = under_head ms falls in
    let e = twins_from q.0 [] [] ms sorted (λ k. refl) tt q.1 falls tt differ p (strict sorted up apart_so) in
    omega (arith, e)

-- ---- where none is there twice

some_left : (ms : List Mark) → Falls ms → AllByRecursion (λ m. 0 < left_at m) ms
some_left [] h = tt
some_left (m ∷ ms) h = (h.0, some_left ms h.2)

all_sorted : (ms sorted : List Mark) → Falls ms → IsPermutation ms sorted → AllByRecursion (λ m. 0 < left_at m) sorted
all_sorted ms sorted falls p =
    recursion_from_All (λ m. 0 < left_at m) sorted (All-permutation (λ m. 0 < left_at m) ms sorted p (All-from_recursion (λ m. 0 < left_at m) ms (some_left ms falls)))

elements_up : (ms : List Mark) → AllByRecursion (λ m. 0 < left_at m) ms → twin_left ms ≡ 0 → IsTrue (elements_ascend (items_of (elements_of ms)))
elements_up [] h e = refl
elements_up (m ∷ []) h e = refl
elements_up (m ∷ n ∷ ns) h e = by (λ k. elements_up (n ∷ ns) h.1 k) (is_lt (edn_cmp m.0 n.0)) e
  where
    by : (twin_after n ns ≡ 0 → IsTrue (elements_ascend (items_of (elements_of (n ∷ ns))))) → (b : Bool) → max (cond b 0 (left_at n)) (twin_after n ns) ≡ 0 → (b && elements_ascend (items_of (elements_of (n ∷ ns)))) ≡ true
    by more true k = more (omega (arith, k))
    by more false k = let some = h.1.0 in absurd (omega (arith, some, k))

pub elements_ascend_so : (ms sorted : List Mark) → Falls ms → IsPermutation ms sorted → twin_left sorted ≡ 0 → IsTrue (elements_ascend (items_of (elements_of sorted)))
elements_ascend_so ms sorted falls p e = elements_up sorted (all_sorted ms sorted falls p) e

keys_up : (es : List (Mark × Edn)) → AllByRecursion (λ m. 0 < left_at m) (keys_of es) → twin_left (keys_of es) ≡ 0 → IsTrue (keys_ascend (entries_of (pairs_of es)))
keys_up [] h e = refl
keys_up (m ∷ []) h e = refl
keys_up (m ∷ n ∷ ns) h e = by (λ k. keys_up (n ∷ ns) h.1 k) (is_lt (edn_cmp m.0.0 n.0.0)) e
  where
    by : (twin_after n.0 (keys_of ns) ≡ 0 → IsTrue (keys_ascend (entries_of (pairs_of (n ∷ ns))))) → (b : Bool) → max (cond b 0 (left_at n.0)) (twin_after n.0 (keys_of ns)) ≡ 0 → (b && keys_ascend (entries_of (pairs_of (n ∷ ns)))) ≡ true
    by more true k = more (omega (arith, k))
    by more false k = let some = h.1.0 in absurd (omega (arith, some, k))

pub keys_ascend_so : (es sorted : List (Mark × Edn)) → Falls (keys_of es) → IsPermutation es sorted → twin_left (keys_of sorted) ≡ 0 → IsTrue (keys_ascend (entries_of (pairs_of sorted)))
keys_ascend_so es sorted falls p e = keys_up sorted (all_sorted (keys_of es) (keys_of sorted) falls (IsPermutation-map (λ (f : Mark × Edn). f.0) es sorted p)) e

-- ---- entries that were sorted with their values

keys_sorted : (es : List (Mark × Edn)) → IsSorted (λ e f. ordering_then (mark_cmp e.0 f.0) (edn_cmp e.1 f.1)) es → IsSorted mark_cmp (keys_of es)
keys_sorted es up k d low h =
    let here : get_or (keys_of es) k d ≡ (get_or es k (d, nil)).0 = get_or-map (λ (e : Mark × Edn). e.0) es k (d, nil) in
    let next : get_or (keys_of es) (k + 1) d ≡ (get_or es (k + 1) (d, nil)).0 = get_or-map (λ (e : Mark × Edn). e.0) es (k + 1) (d, nil) in
    let below : k + 1 < length es = omega (arith, length-map es (λ (e : Mark × Edn). e.0)) in
    rw (here, next) (first_not_less _ _ (up k (d, nil) low below))
  where
    first_not_less : (r s : Ordering) → is_lt (ordering_then r s) ≡ false → is_lt r ≡ false
    first_not_less Less s e = e
    first_not_less Equal s e = refl
    first_not_less Greater s e = refl

pub key_twins : (es sorted : List (Mark × Edn)) → Falls (keys_of es) → IsPermutation es sorted → IsSorted (λ e f. ordering_then (mark_cmp e.0 f.0) (edn_cmp e.1 f.1)) sorted → twin_left (keys_of sorted) ≡ first_twice [] (keys_of es)
key_twins es sorted falls p up = twins (keys_of es) (keys_of sorted) falls (IsPermutation-map (λ (e : Mark × Edn). e.0) es sorted p) (keys_sorted sorted up)

-- ---- the search of neighbours

twin_at : (ms : List Mark) (i : ℕ) (x y : Mark) → 1 ≤ i → i < length ms
    → twin_left (drop (i - 1) ms) ≡ max (cond (is_lt (edn_cmp (get_or ms (i - 1) x).0 (get_or ms i y).0)) 0 (left_at (get_or ms i y))) (twin_left (drop i ms))
twin_at ms zero x y h k = absurd (omega arith)
twin_at ms (suc i) x y h k =
    let below : i < length ms = omega arith in
    let e : drop i ms ≡ get_or ms i x ∷ (get_or ms (suc i) y ∷ drop (suc (suc i)) ms) = rw (drop-cons ms i x, drop-cons ms (suc i) y) refl in
    let f : drop (suc i) ms ≡ get_or ms (suc i) y ∷ drop (suc (suc i)) ms = drop-cons ms (suc i) y k in
    rw (sub-one, e, f) refl

key_twin_at : (es : List (Mark × Edn)) (i : ℕ) (x y : Mark × Edn) → 1 ≤ i → i < length es
    → twin_left (drop (i - 1) (keys_of es)) ≡ max (cond (is_lt (edn_cmp (get_or es (i - 1) x).0.0 (get_or es i y).0.0)) 0 (left_at (get_or es i y).0)) (twin_left (drop i (keys_of es)))
key_twin_at es i x y h k =
    let before : get_or (keys_of es) (i - 1) x.0 ≡ (get_or es (i - 1) x).0 = get_or-map (λ (e : Mark × Edn). e.0) es (i - 1) x in
    let here : get_or (keys_of es) i y.0 ≡ (get_or es i y).0 = get_or-map (λ (e : Mark × Edn). e.0) es i y in
    let below : i < length (keys_of es) = omega (arith, length-map es (λ (e : Mark × Edn). e.0)) in
    rw (before, here) at (twin_at (keys_of es) i x.0 y.0 h below)

greater : (a b : ℕ) → ord_max nat_cmp a b ≡ max a b
greater a b = grind (arith, nat_tests)

turn : (i most twin next before after whole : ℕ) → before ≡ max twin after → next ≡ ord_max nat_cmp most twin → max most before ≡ whole → max next after ≡ whole
turn i most twin next before after whole e n h = let m = n ∙ greater most twin in omega (arith, e, m, h)

-- one turn of the search
pub twin_turn : (ms : List Mark) (i most twin next : ℕ) (x y : Mark) → 1 ≤ i → i < length ms → y ≡ get_or ms i y → twin ≡ cond (is_lt (edn_cmp (get_or ms (i - 1) x).0 y.0)) 0 (left_at y) → next ≡ ord_max nat_cmp most twin
    → max most (twin_left (drop (i - 1) ms)) ≡ twin_left ms → max next (twin_left (drop (i + 1 - 1) ms)) ≡ twin_left ms
twin_turn ms i most twin next x y h k is t n same =
    let at = rw (← is) at (twin_at ms i x y h k) in
    let back : i + 1 - 1 ≡ i = omega arith in
    rw back (turn i most twin next (twin_left (drop (i - 1) ms)) (twin_left (drop i ms)) (twin_left ms) (rw (← t) at at) n same)

pub key_twin_turn : (es : List (Mark × Edn)) (i most twin next : ℕ) (x y : Mark × Edn) → 1 ≤ i → i < length es → y ≡ get_or es i y → twin ≡ cond (is_lt (edn_cmp (get_or es (i - 1) x).0.0 y.0.0)) 0 (left_at y.0)
    → next ≡ ord_max nat_cmp most twin → max most (twin_left (drop (i - 1) (keys_of es))) ≡ twin_left (keys_of es) → max next (twin_left (drop (i + 1 - 1) (keys_of es))) ≡ twin_left (keys_of es)
key_twin_turn es i most twin next x y h k is t n same =
    let at = rw (← is) at (key_twin_at es i x y h k) in
    let back : i + 1 - 1 ≡ i = omega arith in
    rw back (turn i most twin next (twin_left (drop (i - 1) (keys_of es))) (twin_left (drop i (keys_of es))) (twin_left (keys_of es)) (rw (← t) at at) n same)

no_twin : (ms : List Mark) → length ms ≤ 1 → twin_left ms ≡ 0
no_twin [] h = refl
no_twin (m ∷ []) h = refl
no_twin (m ∷ n ∷ ns) h = absurd (omega arith)

pub twin_end : (ms : List Mark) (i : ℕ) → 1 ≤ i → length ms ≤ i → twin_left (drop (i - 1) ms) ≡ 0
twin_end ms i h k = no_twin (drop (i - 1) ms) (omega (arith, length-drop (i - 1) ms))

pub key_twin_end : (es : List (Mark × Edn)) (i : ℕ) → 1 ≤ i → length es ≤ i → twin_left (drop (i - 1) (keys_of es)) ≡ 0
key_twin_end es i h k = twin_end (keys_of es) i h (omega (arith, length-map es (λ (e : Mark × Edn). e.0)))
