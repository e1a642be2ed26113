-- What the sides of a fork have together, and what stays true of a fork when one of them changes.
use Rattle.std.proofs.Common.{◌≡◌, ℕ, zero, suc, ◌+◌, ◌/◌, ◌^◌, ◌<◌, ◌≤◌, ◌⊎◌, inl, inr, List, [], ◌∷◌, length, get_or, slice_set, Option, None, Some, refl, sym, ap, ◌∙◌, subst, arith, ⊎_elim, Result, Ok, Err, OnOk, OnErr}
use Rattle.std.specs.Option.{MatchOption, option_or}
use Rattle.std.specs.Ordering.{nat_cmp}
use Rattle.std.specs.FinMap.{FinMap, get, empty, insert, remove, get-empty}
use Rattle.std.proofs.lemmas.Bool.{cases_lt, cases_eq}
use Rattle.std.proofs.lemmas.List.{length-set, get_or-set_same, get_or-set_other, get_or-replicate, get_or_past, get_or_default, length-replicate, set-get_or}
use Rattle.ref_pmap.specs.Joined.{joined, single}
use Rattle.ref_pmap.specs.declared.blocks.Block.{Block}
use Rattle.ref_pmap.specs.Trees.{all_joined, side_map, no_sides, IsFork}
use Rattle.ref_pmap.proofs.Joins.{get_left, get_right, with_left, with_right, same, still_none, single_none}
use Rattle.ref_pmap.proofs.Removals.{gone_left, gone_right, gone_none}

module _ {V : Type 0} where
  pub none_in_all : (ts : List (FinMap nat_cmp V × ℕ)) (q : ℕ) → ((i : ℕ) → get (side_map ts i) q ≡ None) → get (all_joined ts) q ≡ None
  none_in_all [] q none = get-empty nat_cmp q
  none_in_all (t ∷ ts) q none = get_right t.0 (all_joined ts) q (none zero) ∙ none_in_all ts q (λ i. none (suc i))

  -- a key that isn't in the other sides
  pub get_side : (ts : List (FinMap nat_cmp V × ℕ)) (i q : ℕ) → ((j : ℕ) → (j ≡ i → ⊥) → get (side_map ts j) q ≡ None) → get (all_joined ts) q ≡ get (side_map ts i) q
  get_side [] i q others = refl
  get_side (t ∷ ts) zero q others = get_left t.0 (all_joined ts) q (none_in_all ts q (λ j. others (suc j) (λ e. omega arith)))
  get_side (t ∷ ts) (suc i) q others = get_right t.0 (all_joined ts) q (others zero (λ e. omega arith)) ∙ get_side ts i q (λ j apart. others (suc j) (λ e. apart (omega arith)))

  pub put_in : (ts : List (FinMap nat_cmp V × ℕ)) (i k : ℕ) (v : V) (t : FinMap nat_cmp V × ℕ) → i < length ts → t.0 ≡ insert (side_map ts i) k v
      → ((j : ℕ) → (j ≡ i → ⊥) → get (side_map ts j) k ≡ None) → all_joined (slice_set ts i t) ≡ insert (all_joined ts) k v
  put_in [] i k v t below is others = absurd (omega arith)
  put_in (u ∷ us) zero k v t below is others = ap (λ m. joined m (all_joined us)) is ∙ with_left u.0 (all_joined us) k v
  put_in (u ∷ us) (suc i) k v t below is others =
      ap (joined u.0) (put_in us i k v t (omega arith) is (λ j apart. others (suc j) (λ e. apart (omega arith))))
      ∙ with_right u.0 (all_joined us) k v (others zero (λ e. omega arith))

  pub taken_from : (ts : List (FinMap nat_cmp V × ℕ)) (i k : ℕ) (t : FinMap nat_cmp V × ℕ) → i < length ts → t.0 ≡ remove (side_map ts i) k
      → ((j : ℕ) → (j ≡ i → ⊥) → get (side_map ts j) k ≡ None) → all_joined (slice_set ts i t) ≡ remove (all_joined ts) k
  taken_from [] i k t below is others = absurd (omega arith)
  taken_from (u ∷ us) zero k t below is others =
      ap (λ m. joined m (all_joined us)) is ∙ gone_left u.0 (all_joined us) k (none_in_all us k (λ j. others (suc j) (λ e. omega arith)))
  taken_from (u ∷ us) (suc i) k t below is others =
      ap (joined u.0) (taken_from us i k t (omega arith) is (λ j apart. others (suc j) (λ e. apart (omega arith))))
      ∙ gone_right u.0 (all_joined us) k (others zero (λ e. omega arith))

  -- where all other sides are empty, one is all
  pub only_side : (ts : List (FinMap nat_cmp V × ℕ)) (i : ℕ) → ((j : ℕ) → (j ≡ i → ⊥) → side_map ts j ≡ empty) → all_joined ts ≡ side_map ts i
  only_side ts i others = same _ _ (λ q. get_side ts i q (λ j apart. ap (λ m. get m q) (others j apart) ∙ get-empty nat_cmp q))

  -- what is read at an index
  pub side_read : (ts : List (FinMap nat_cmp V × ℕ)) (i : ℕ) (t : FinMap nat_cmp V × ℕ) → i < length ts → (get_or ts i t).0 ≡ side_map ts i
  side_read ts i t below = ap (λ u. u.0) (get_or_default ts i t (empty, 0) below)

  past : (ts : List (FinMap nat_cmp V × ℕ)) (i : ℕ) → length ts ≤ i → side_map ts i ≡ empty
  past ts i m = ap (λ t. t.0) (get_or_past ts i (empty, 0) m)

  -- ---- a fork

  pub others_none : (b : Block) (ts : List (FinMap nat_cmp V × ℕ)) → IsFork b ts → (i q : ℕ) → q / 2 ^ b.shift ≡ b.first + i → (j : ℕ) → (j ≡ i → ⊥) → get (side_map ts j) q ≡ None
  others_none b ts f i q at j apart = f.apart j q (λ e. apart (omega arith))

  pub get_here : (b : Block) (ts : List (FinMap nat_cmp V × ℕ)) → IsFork b ts → (i q : ℕ) → q / 2 ^ b.shift ≡ b.first + i → get (all_joined ts) q ≡ get (side_map ts i) q
  get_here b ts f i q at = get_side ts i q (others_none b ts f i q at)

  pub none_here : (b : Block) (ts : List (FinMap nat_cmp V × ℕ)) → IsFork b ts → (q : ℕ) → ((i : ℕ) → i < 16 → q / 2 ^ b.shift ≡ b.first + i → ⊥) → get (all_joined ts) q ≡ None
  none_here b ts f q away = none_in_all ts q (λ i. ⊎_elim (λ low. f.apart i q (away i low)) (λ high. ap (λ m. get m q) (past ts i (omega (arith, f.count))) ∙ get-empty nat_cmp q) (cases_lt i 16))

  pub get_outside : (b : Block) (ts : List (FinMap nat_cmp V × ℕ)) → IsFork b ts → (q : ℕ) → (q / 2 ^ b.shift < b.first) ⊎ (b.first + 16 ≤ q / 2 ^ b.shift) → get (all_joined ts) q ≡ None
  get_outside b ts f q out = none_here b ts f q (λ i low at. away i low at out)
    where
      away : (i : ℕ) → i < 16 → q / 2 ^ b.shift ≡ b.first + i → (q / 2 ^ b.shift < b.first) ⊎ (b.first + 16 ≤ q / 2 ^ b.shift) → ⊥
      away i low e (inl before) = omega arith
      away i low e (inr after) = omega arith

  pub changed : (b : Block) (ts : List (FinMap nat_cmp V × ℕ)) → IsFork b ts → (i : ℕ) (t : FinMap nat_cmp V × ℕ) → i < 16 → ((q : ℕ) → (q / 2 ^ b.shift ≡ b.first + i → ⊥) → get t.0 q ≡ None) → IsFork b (slice_set ts i t)
  changed b ts f i t low none = record {
    count = length-set ts i t ∙ f.count;
    apart = λ j q away. ⊎_elim (λ e. here j q away e) (λ e. ap (λ u. get u.0 q) (get_or-set_other ts i j t (empty, 0) e) ∙ f.apart j q away) (cases_eq j i);
  } where
    here : (j q : ℕ) → (q / 2 ^ b.shift ≡ b.first + j → ⊥) → j ≡ i → get (side_map (slice_set ts i t) j) q ≡ None
    here j q away e =
        ap (λ n. get (side_map (slice_set ts i t) n) q) e ∙ ap (λ u. get u.0 q) (get_or-set_same ts i t (empty, 0) (omega (arith, f.count)))
        ∙ none q (λ at. away (omega arith))

  pub no_side : (i : ℕ) → side_map {V = V} no_sides i ≡ empty
  no_side i = ⊎_elim (λ low. ap (λ (t : FinMap nat_cmp V × ℕ). t.0) (get_or-replicate 16 i (empty, 0) (empty, 0) low)) (λ high. past no_sides i (omega (arith, length-replicate {A = FinMap nat_cmp V × ℕ} 16 (empty, 0)))) (cases_lt i 16)

  pub bare : (b : Block) → IsFork {V = V} b no_sides
  bare b = record {
    count = length-replicate {A = FinMap nat_cmp V × ℕ} 16 (empty, 0);
    apart = λ i q away. ap (λ m. get m q) (no_side i) ∙ get-empty nat_cmp q;
  }

  -- a fork of a tree d and of a leaf
  one_side : (i j : ℕ) (d : FinMap nat_cmp V × ℕ) → (j ≡ i → ⊥) → side_map (slice_set no_sides i d) j ≡ empty
  one_side i j d apart = ap (λ (t : FinMap nat_cmp V × ℕ). t.0) (get_or-set_other no_sides i j d (empty, 0) apart) ∙ no_side j

  one_map : (i : ℕ) (d : FinMap nat_cmp V × ℕ) → i < 16 → all_joined (slice_set no_sides i d) ≡ d.0
  one_map i d low =
      only_side (slice_set no_sides i d) i (λ j apart. one_side i j d apart)
      ∙ ap (λ (t : FinMap nat_cmp V × ℕ). t.0) (get_or-set_same no_sides i d (empty, 0) (omega (arith, length-replicate {A = FinMap nat_cmp V × ℕ} 16 (empty, 0))))

  one_fork : (b : Block) (i : ℕ) (d : FinMap nat_cmp V × ℕ) → i < 16 → ((q : ℕ) → (q / 2 ^ b.shift ≡ b.first + i → ⊥) → get d.0 q ≡ None) → IsFork b (slice_set no_sides i d)
  one_fork b i d low none = changed b no_sides (bare b) i d low none

  pub two_fork : (b : Block) (i j : ℕ) (d : FinMap nat_cmp V × ℕ) (k : ℕ) (v : V) → i < 16 → j < 16 → ((q : ℕ) → (q / 2 ^ b.shift ≡ b.first + i → ⊥) → get d.0 q ≡ None)
      → k / 2 ^ b.shift ≡ b.first + j → IsFork b (slice_set (slice_set no_sides i d) j (single k v, 0))
  two_fork b i j d k v low high none at =
      changed b (slice_set no_sides i d) (one_fork b i d low none) j (single k v, 0) high (λ q away. single_none k v q (λ e. away (ap (λ n. n / 2 ^ b.shift) e ∙ at)))

  pub two_map : (b : Block) (i j : ℕ) (d : FinMap nat_cmp V × ℕ) (k : ℕ) (v : V) → i < 16 → j < 16 → (i ≡ j → ⊥) → ((q : ℕ) → (q / 2 ^ b.shift ≡ b.first + i → ⊥) → get d.0 q ≡ None)
      → k / 2 ^ b.shift ≡ b.first + j → all_joined (slice_set (slice_set no_sides i d) j (single k v, 0)) ≡ insert d.0 k v
  two_map b i j d k v low high apart none at =
      let f = one_fork b i d low none in
      put_in (slice_set no_sides i d) j k v (single k v, 0) (omega (arith, f.count)) (ap (λ m. insert m k v) (sym (one_side i j d (λ e. apart (sym e)))))
      (others_none b (slice_set no_sides i d) f j k at)
      ∙ ap (λ m. insert m k v) (one_map i d low)

  -- ---- a fork after a side was changed, or stayed

  -- within its block, a side stays where it belongs
  put_none : (b : Block) (ts : List (FinMap nat_cmp V × ℕ)) → IsFork b ts → (i k : ℕ) (v : V) → k / 2 ^ b.shift ≡ b.first + i → (q : ℕ) → (q / 2 ^ b.shift ≡ b.first + i → ⊥) → get (insert (side_map ts i) k v) q ≡ None
  put_none b ts f i k v at q away = still_none (side_map ts i) k v q (λ e. away (ap (λ n. n / 2 ^ b.shift) e ∙ at)) (f.apart i q away)

  pub put_fork : {T E : Type 0} (b : Block) (ts : List (FinMap nat_cmp V × ℕ)) (i k : ℕ) (v : V) (t u : FinMap nat_cmp V × ℕ) (result : Result T E) → IsFork b ts → i < 16 → k / 2 ^ b.shift ≡ b.first + i
      → OnOk result (t.0 ≡ insert (get_or ts i u).0 k v) → OnErr result (t ≡ get_or ts i u) → IsFork b (slice_set ts i t)
  put_fork b ts i k v t u (Ok x) f low at ok err =
      changed b ts f i t low (λ q away. ap (λ m. get m q) (ok ∙ ap (λ m. insert m k v) (side_read ts i u (omega (arith, f.count)))) ∙ put_none b ts f i k v at q away)
  put_fork b ts i k v t u (Err e) f low at ok err = subst (IsFork b) (sym (ap (slice_set ts i) err ∙ set-get_or ts i u)) f

  pub put_map : {T E : Type 0} (b : Block) (ts : List (FinMap nat_cmp V × ℕ)) (i k : ℕ) (v : V) (t u : FinMap nat_cmp V × ℕ) (result : Result T E) → IsFork b ts → i < 16 → k / 2 ^ b.shift ≡ b.first + i
      → OnOk result (t.0 ≡ insert (get_or ts i u).0 k v) → OnOk result (all_joined (slice_set ts i t) ≡ insert (all_joined ts) k v)
  put_map b ts i k v t u (Ok x) f low at ok =
      put_in ts i k v t (omega (arith, f.count)) (ok ∙ ap (λ m. insert m k v) (side_read ts i u (omega (arith, f.count)))) (others_none b ts f i k at)
  put_map b ts i k v t u (Err e) f low at ok = tt

  pub gone_fork : (b : Block) (ts : List (FinMap nat_cmp V × ℕ)) (i k : ℕ) (t u : FinMap nat_cmp V × ℕ) → IsFork b ts → i < 16 → t.0 ≡ remove (get_or ts i u).0 k → IsFork b (slice_set ts i t)
  gone_fork b ts i k t u f low is =
      changed b ts f i t low (λ q away. ap (λ m. get m q) (is ∙ ap (λ m. remove m k) (side_read ts i u (omega (arith, f.count)))) ∙ gone_none (side_map ts i) k q (f.apart i q away))

  pub gone_map : (b : Block) (ts : List (FinMap nat_cmp V × ℕ)) (i k : ℕ) (t u : FinMap nat_cmp V × ℕ) → IsFork b ts → i < 16 → k / 2 ^ b.shift ≡ b.first + i → t.0 ≡ remove (get_or ts i u).0 k
      → all_joined (slice_set ts i t) ≡ remove (all_joined ts) k
  gone_map b ts i k t u f low at is =
      taken_from ts i k t (omega (arith, f.count)) (is ∙ ap (λ m. remove m k) (side_read ts i u (omega (arith, f.count)))) (others_none b ts f i k at)

  -- ---- the only side that isn't empty, among the first n

  abbrev pub OnlySo : List (FinMap nat_cmp V × ℕ) → ℕ → Option ℕ → Type 0
  OnlySo ts n None = (j : ℕ) → j < n → side_map ts j ≡ empty
  OnlySo ts n (Some i) = (i < n) × ((j : ℕ) → j < n → (j ≡ i → ⊥) → side_map ts j ≡ empty)

  pub only_found : (ts : List (FinMap nat_cmp V × ℕ)) (n : ℕ) (only : Option ℕ) → length ts ≡ 16 → n ≡ 16 → OnlySo ts n only
      → MatchOption (option_or only (Some 0)) (Unit {0}) (λ i. (i < 16) × ((j : ℕ) → (j ≡ i → ⊥) → side_map ts j ≡ empty))
  only_found ts n None long all so = (omega arith, λ j apart. by ts j long (λ low. so j (omega arith)))
    where
      by : (ts : List (FinMap nat_cmp V × ℕ)) (j : ℕ) → length ts ≡ 16 → (j < 16 → side_map ts j ≡ empty) → side_map ts j ≡ empty
      by ts j long there = ⊎_elim there (λ high. past ts j (omega arith)) (cases_lt j 16)
  only_found ts n (Some i) long all so = (omega (arith, so.0), λ j apart. ⊎_elim (λ low. so.1 j (omega arith) apart) (λ high. past ts j (omega arith)) (cases_lt j 16))
