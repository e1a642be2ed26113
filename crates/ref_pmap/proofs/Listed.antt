-- The list of a map's values by number.
use Rattle.std.proofs.Common.{◌≡◌, ℕ, zero, suc, ◌+◌, ◌<◌, ◌≤◌, ◌^◌, ◌⊎◌, inl, inr, Bool, true, false, cond, List, [], ◌∷◌, ◌++◌, length, slice_get, slice_set, get_or, Option, None, Some, refl, sym, ap, ◌∙◌, arith, ◌==◌, ⊎_elim, subst, Result, Ok, Err, OnOk, OnErr}
use Rattle.std.specs.Prelude.{is_some}
use Rattle.std.specs.Ordering.{nat_cmp, eq_by_cmp}
use Rattle.std.specs.Cmp.{nat_cmp_total, unsigned_tied}
use Rattle.std.specs.FinMap.{FinMap, get, len, insert, empty, get-insert, get-empty, len-insert, len-empty}
use Rattle.std.proofs.lemmas.Bool.{cases_lt, eqb-true, eqb-false}
use Rattle.std.proofs.lemmas.Option.{slice_get_past, get_or_from_slice_get}
use Rattle.ref_pmap.specs.ByNumber.{and_rest, values_from, items_of, IsByNumber}
use Rattle.ref_pmap.proofs.Joins.{by_key}

module _ {V : Type 0} where
  -- ---- lists

  head_same : (x y : V) → Some x ≡ Some y → x ≡ y
  head_same x y e = cc

  -- lists with the same item at each place
  pub same_items : (xs ys : List V) → ((i : ℕ) → slice_get xs i ≡ slice_get ys i) → xs ≡ ys
  same_items [] [] same = refl
  same_items [] (y ∷ ys) same = let e : None ≡ Some y = same zero in absurd cc
  same_items (x ∷ xs) [] same = let e : Some x ≡ None = same zero in absurd cc
  same_items (x ∷ xs) (y ∷ ys) same =
      let first = head_same x y (same zero) in
      let others = same_items xs ys (λ i. same (suc i)) in
      cc

  get_set_here : (xs : List V) (k : ℕ) (v : V) → k < length xs → slice_get (slice_set xs k v) k ≡ Some v
  get_set_here [] k v below = absurd (omega (arith, below))
  get_set_here (x ∷ xs) zero v below = refl
  get_set_here (x ∷ xs) (suc k) v below = get_set_here xs k v (omega (arith, below))

  get_set_other : (xs : List V) (k q : ℕ) (v : V) → (q ≡ k → ⊥) → slice_get (slice_set xs k v) q ≡ slice_get xs q
  get_set_other [] k q v other = refl
  get_set_other (x ∷ xs) zero zero v other = absurd (other refl)
  get_set_other (x ∷ xs) zero (suc q) v other = refl
  get_set_other (x ∷ xs) (suc k) zero v other = refl
  get_set_other (x ∷ xs) (suc k) (suc q) v other = get_set_other xs k q v (λ same. other (ap suc same))

  get_next_here : (xs : List V) (v : V) → slice_get (xs ++ v ∷ []) (length xs) ≡ Some v
  get_next_here [] v = refl
  get_next_here (x ∷ xs) v = get_next_here xs v

  get_next_other : (xs : List V) (q : ℕ) (v : V) → (q ≡ length xs → ⊥) → slice_get (xs ++ v ∷ []) q ≡ slice_get xs q
  get_next_other [] zero v other = absurd (other refl)
  get_next_other [] (suc q) v other = refl
  get_next_other (x ∷ xs) zero v other = refl
  get_next_other (x ∷ xs) (suc q) v other = get_next_other xs q v (λ same. other (ap suc same))

  -- ---- the values from a number on

  abbrev AllThere : (ℕ → Option V) → ℕ → ℕ → Type 0
  AllThere at k n = (q : ℕ) → k ≤ q → q < k + n → is_some (at q) ≡ true

  length_from : (at : ℕ → Option V) (k n : ℕ) → AllThere at k n → length (values_from at k n) ≡ n
  length_from at k zero there = refl
  length_from at k (suc n) there = by (at k) (there k (omega arith) (omega arith)) (length_from at (k + 1) n (λ q low high. there q (omega arith) (omega arith)))
    where
      by : (o : Option V) → is_some o ≡ true → length (values_from at (k + 1) n) ≡ n → length (and_rest o (values_from at (k + 1) n)) ≡ suc n
      by None here later = absurd cc
      by (Some v) here later = ap suc later

  get_from : (at : ℕ → Option V) (k n i j : ℕ) → AllThere at k n → i < n → k + i ≡ j → slice_get (values_from at k n) i ≡ at j
  get_from at k zero i j there below is = absurd (omega arith)
  get_from at k (suc n) i j there below is =
      by (at k) refl (there k (omega arith) (omega arith)) i below is (λ i less next. get_from at (k + 1) n i j (λ q low high. there q (omega arith) (omega arith)) less next)
    where
      by : (o : Option V) → at k ≡ o → is_some o ≡ true → (i : ℕ) → i < suc n → k + i ≡ j → ((i : ℕ) → i < n → k + 1 + i ≡ j → slice_get (values_from at (k + 1) n) i ≡ at j) → slice_get (and_rest o (values_from at (k + 1) n)) i ≡ at j
      by None e here i below is later = absurd cc
      by (Some v) e here zero below is later = sym e ∙ ap at (omega arith)
      by (Some v) e here (suc i) below is later = later i (omega arith) (omega arith)

  -- ---- a map by number

  pub items_length : (m : FinMap nat_cmp V) → IsByNumber m → length (items_of m) ≡ len m
  items_length m is = length_from (get m) 0 (len m) (λ q low high. is.there q (omega arith))

  pub items_get : (m : FinMap nat_cmp V) → IsByNumber m → (i : ℕ) → slice_get (items_of m) i ≡ get m i
  items_get m is i = by (cases_lt i (len m))
    where
      by : (i < len m) ⊎ (len m ≤ i) → slice_get (items_of m) i ≡ get m i
      by (inl below) = get_from (get m) 0 (len m) i i (λ q low high. is.there q (omega arith)) below (omega arith)
      by (inr past) = slice_get_past (items_of m) i (omega (arith, items_length m is)) ∙ sym (is.none i past)

  pub none_by_number : IsByNumber (empty {X = V} {R = nat_cmp})
  none_by_number = record {
    there = λ q below. absurd (omega (arith, below, len-empty nat_cmp V));
    none = λ q past. get-empty nat_cmp q;
    few = omega (arith, len-empty nat_cmp V);
  }

  pub none_listed : items_of (empty {X = V} {R = nat_cmp}) ≡ []
  none_listed = ap (values_from (get empty) 0) (len-empty nat_cmp V)

  some_there : (o : Option V) (v : V) (b : Bool) → is_some o ≡ true → is_some (cond b (Some v) o) ≡ true
  some_there o v true there = refl
  some_there o v false there = there

  -- another value at a number that has one
  len_with : (m : FinMap nat_cmp V) (k : ℕ) (v : V) → IsByNumber m → k < len m → len (insert m k v) ≡ len m
  len_with m k v is below = len-insert nat_cmp_total m k v ∙ ap (λ b. cond b (len m) (len m + 1)) (is.there k below)

  pub with_by_number : (m : FinMap nat_cmp V) (k : ℕ) (v : V) → IsByNumber m → k < len m → IsByNumber (insert m k v)
  with_by_number m k v is below = let same = len_with m k v is below in record {
    there = λ q within. ap is_some (get-insert nat_cmp_total m k v q) ∙ some_there (get m q) v (eq_by_cmp nat_cmp q k) (is.there q (omega arith));
    none = λ q past. get-insert nat_cmp_total m k v q ∙ by_key (λ b. cond b (Some v) (get m q) ≡ None) q k (λ e. absurd (omega arith)) (is.none q (omega arith));
    few = omega (arith, is.few);
  }

  pub with_listed : (m : FinMap nat_cmp V) (k : ℕ) (v : V) → IsByNumber m → k < len m → items_of (insert m k v) ≡ slice_set (items_of m) k v
  with_listed m k v is below = same_items _ _ (λ q.
      items_get (insert m k v) (with_by_number m k v is below) q ∙ get-insert nat_cmp_total m k v q
      ∙ ap (λ b. cond b (Some v) (get m q)) (unsigned_tied q k) ∙ by q (q == k) refl)
    where
      by : (q : ℕ) (b : Bool) → (q == k) ≡ b → cond b (Some v) (get m q) ≡ slice_get (slice_set (items_of m) k v) q
      by q true e = sym (ap (slice_get (slice_set (items_of m) k v)) (eqb-true q k e) ∙ get_set_here (items_of m) k v (omega (arith, items_length m is)))
      by q false e = sym (get_set_other (items_of m) k q v (eqb-false q k e) ∙ items_get m is q)

  -- one more, whose number is the next one
  len_next : (m : FinMap nat_cmp V) (v : V) → IsByNumber m → len (insert m (len m) v) ≡ len m + 1
  len_next m v is = len-insert nat_cmp_total m (len m) v ∙ ap (λ o. cond (is_some o) (len m) (len m + 1)) (is.none (len m) (omega arith))

  pub next_by_number : (m : FinMap nat_cmp V) (v : V) → IsByNumber m → len m < 2 ^ 32 → IsByNumber (insert m (len m) v)
  next_by_number m v is room = let more = len_next m v is in record {
    there = λ q within. ap is_some (get-insert nat_cmp_total m (len m) v q ∙ ap (λ b. cond b (Some v) (get m q)) (unsigned_tied q (len m))) ∙ there_by q (q == len m) refl (omega arith);
    none = λ q past. get-insert nat_cmp_total m (len m) v q ∙ by_key (λ b. cond b (Some v) (get m q) ≡ None) q (len m) (λ e. absurd (omega arith)) (is.none q (omega arith));
    few = omega arith;
  } where
    lt_from : (q n : ℕ) → (q ≡ n → ⊥) → q < n + 1 → q < n
    lt_from q n other within = ⊎_elim (λ low. low) (λ high. absurd (other (omega arith))) (cases_lt q n)

    there_by : (q : ℕ) (b : Bool) → (q == len m) ≡ b → q < len m + 1 → is_some (cond b (Some v) (get m q)) ≡ true
    there_by q true e within = refl
    there_by q false e within = let other = eqb-false q (len m) e in is.there q (lt_from q (len m) other within)

  pub next_listed : (m : FinMap nat_cmp V) (v : V) → IsByNumber m → len m < 2 ^ 32 → items_of (insert m (len m) v) ≡ items_of m ++ v ∷ []
  next_listed m v is room = same_items _ _ (λ q.
      items_get (insert m (len m) v) (next_by_number m v is room) q ∙ get-insert nat_cmp_total m (len m) v q
      ∙ ap (λ b. cond b (Some v) (get m q)) (unsigned_tied q (len m)) ∙ by q (q == len m) refl)
    where
      same_len : length (items_of m) ≡ len m
      same_len = items_length m is

      by : (q : ℕ) (b : Bool) → (q == len m) ≡ b → cond b (Some v) (get m q) ≡ slice_get (items_of m ++ v ∷ []) q
      by q true e = sym (ap (slice_get (items_of m ++ v ∷ [])) (eqb-true q (len m) e ∙ sym same_len) ∙ get_next_here (items_of m) v)
      by q false e = sym (get_next_other (items_of m) q v (λ same. eqb-false q (len m) e (same ∙ same_len)) ∙ items_get m is q)

  -- ---- what a look-up answers

  pub item_there : (m : FinMap nat_cmp V) (xs : List V) (i : ℕ) → IsByNumber m → items_of m ≡ xs → i < length xs → None ≡ get m i → ⊥
  item_there m xs i is are below none =
      let here = is.there i (omega (arith, items_length m is, ap length are)) in
      let gone : is_some (get m i) ≡ false = ap is_some (sym none) in
      absurd cc

  pub item_found : (m : FinMap nat_cmp V) (xs : List V) (i : ℕ) (v : V) → IsByNumber m → items_of m ≡ xs → Some v ≡ get m i → v ≡ get_or xs i v
  item_found m xs i v is are found = sym (get_or_from_slice_get xs i v v (ap (λ l. slice_get l i) (sym are) ∙ items_get m is i ∙ sym found))

  -- a map that was changed at a number that has a value, or stayed
  pub set_by_number : {T E : Type 0} (m n : FinMap nat_cmp V) (k : ℕ) (v : V) (result : Result T E) → IsByNumber m → k < len m → OnOk result (n ≡ insert m k v) → OnErr result (n ≡ m) → IsByNumber n
  set_by_number m n k v (Ok x) is below ok err = subst IsByNumber (sym ok) (with_by_number m k v is below)
  set_by_number m n k v (Err e) is below ok err = subst IsByNumber (sym err) is

  pub set_listed : {T E : Type 0} (m n : FinMap nat_cmp V) (k : ℕ) (v : V) (xs : List V) (result : Result T E) → IsByNumber m → k < len m → items_of m ≡ xs → OnOk result (n ≡ insert m k v) → OnOk result (items_of n ≡ slice_set xs k v)
  set_listed m n k v xs (Ok x) is below seen ok = ap items_of ok ∙ with_listed m k v is below ∙ ap (λ ys. slice_set ys k v) seen
  set_listed m n k v xs (Err e) is below seen ok = tt

  pub kept_listed : {T E : Type 0} (m n : FinMap nat_cmp V) (xs : List V) (result : Result T E) → items_of m ≡ xs → OnErr result (n ≡ m) → OnErr result (items_of n ≡ xs)
  kept_listed m n xs (Ok x) seen err = tt
  kept_listed m n xs (Err e) seen err = ap items_of err ∙ seen
