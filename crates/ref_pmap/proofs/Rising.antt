-- The entries of a fork in the order of their keys are those of its first side, then those of its second, and so on: the keys of a
-- side come before those of the next.
use Rattle.std.proofs.Common.{◌≡◌, ℕ, zero, suc, ◌+◌, ◌*◌, ◌/◌, ◌^◌, ◌<◌, ◌≤◌, Bool, true, false, cond, ◌&&◌, List, [], ◌∷◌, ◌++◌, length, Option, Some, None, refl, sym, ap, ◌∙◌, subst, arith, ⊎_elim}
use Rattle.std.proofs.Math.Nat.{le-div_iff_mul-le}
use Rattle.std.proofs.lemmas.Nat.{pow_pos}
use Rattle.std.proofs.lemmas.Bool.{cases_lt}
use Rattle.std.specs.Ordering.{nat_cmp, eq_by_cmp, is_eq, is_lt}
use Rattle.std.specs.Cmp.{nat_cmp_total, tied_itself, nat_cmp_is}
use Rattle.std.specs.declared.cmp.Ordering.TheVariants.{Less}
use lib.Dec.{T}
use Rattle.std.specs.FinMap.{FinMap, get, empty, entries, from_sorted, get-entries, get-from_entries, get-from_sorted, entries-from_sorted, entries_sorted, len-entries, len-empty, entries-insert}
use Rattle.std.specs.FinMap.Entries.{find, is_sorted, below_all, put}
use Rattle.std.specs.List.{flat_map}
use Rattle.ref_pmap.specs.Joined.{joined, single}
use Rattle.ref_pmap.specs.Trees.{all_joined, side_map}
use Rattle.ref_pmap.proofs.Joins.{same}
use Rattle.ref_pmap.proofs.Sides.{none_in_all}

both : (a b : Bool) → T a → T b → T (a && b)
both true b p q = q
both false b p q = p

first : (a b : Bool) → T (a && b) → T a
first true b p = tt
first false b p = p

second : (a b : Bool) → T (a && b) → T b
second true b p = p
second false b p = absurd p

lt_test : (x y : ℕ) → x < y → T (is_lt (nat_cmp x y))
lt_test x y h = subst (λ o. T (is_lt o)) (nat_cmp_is x y Less h) tt

at_least : (s n q : ℕ) → n * 2 ^ s ≤ q → n ≤ q / 2 ^ s
at_least s n q h = (le-div_iff_mul-le (pow_pos s)).1 h

from_least : (s n q : ℕ) → n ≤ q / 2 ^ s → n * 2 ^ s ≤ q
from_least s n q h = (le-div_iff_mul-le (pow_pos s)).0 h

module _ {V : Type 0} where
  -- each key comes before mid
  abbrev AllBelow : ℕ → List (ℕ × V) → Type 0
  AllBelow mid [] = Unit {0}
  AllBelow mid (e ∷ es) = (e.0 < mid) × AllBelow mid es

  -- no key comes before mid
  abbrev AllFrom : ℕ → List (ℕ × V) → Type 0
  AllFrom mid [] = Unit {0}
  AllFrom mid (e ∷ es) = (mid ≤ e.0) × AllFrom mid es

  not_there : (b : Bool) (v : V) (x : Option V) → cond b (Some v) x ≡ None → x ≡ None
  not_there true v x h = cc
  not_there false v x h = h

  hit : (k : ℕ) (v : V) (x : Option V) → cond (eq_by_cmp nat_cmp k k) (Some v) x ≡ Some v
  hit k v x = ap (λ o. cond (is_eq o) (Some v) x) (tied_itself nat_cmp_total k)

  clash : (v : V) (x : Option V) → x ≡ Some v → x ≡ None → ⊥
  clash v x a b = cc

  all_below : (mid : ℕ) (es : List (ℕ × V)) → ((q : ℕ) → mid ≤ q → find nat_cmp q es ≡ None) → AllBelow mid es
  all_below mid [] h = tt
  all_below mid (e ∷ es) h =
      let here : e.0 < mid = ⊎_elim (λ l. l) (λ m. absurd (clash e.1 _ (hit e.0 e.1 (find nat_cmp e.0 es)) (h e.0 m))) (cases_lt e.0 mid) in
      (here, all_below mid es (λ q m. not_there _ e.1 _ (h q m)))

  all_from : (mid : ℕ) (es : List (ℕ × V)) → ((q : ℕ) → q < mid → find nat_cmp q es ≡ None) → AllFrom mid es
  all_from mid [] h = tt
  all_from mid (e ∷ es) h =
      let here : mid ≤ e.0 = ⊎_elim (λ l. absurd (clash e.1 _ (hit e.0 e.1 (find nat_cmp e.0 es)) (h e.0 l))) (λ m. m) (cases_lt e.0 mid) in
      (here, all_from mid es (λ q m. not_there _ e.1 _ (h q m)))

  below_from : (k mid : ℕ) (fs : List (ℕ × V)) → k < mid → AllFrom mid fs → T (below_all nat_cmp k fs)
  below_from k mid [] h a = tt
  below_from k mid (e ∷ es) h a = both _ _ (lt_test k e.0 (omega arith)) (below_from k mid es h a.1)

  below_both : (k mid : ℕ) (es fs : List (ℕ × V)) → T (below_all nat_cmp k es) → k < mid → AllFrom mid fs → T (below_all nat_cmp k (es ++ fs))
  below_both k mid [] fs b h a = below_from k mid fs h a
  below_both k mid (e ∷ es) fs b h a = both _ _ (first _ _ b) (below_both k mid es fs (second _ _ b) h a)

  rising : (mid : ℕ) (es fs : List (ℕ × V)) → T (is_sorted nat_cmp es) → T (is_sorted nat_cmp fs) → AllBelow mid es → AllFrom mid fs → T (is_sorted nat_cmp (es ++ fs))
  rising mid [] fs s t b a = t
  rising mid (e ∷ es) fs s t b a = both _ _ (below_both e.0 mid es fs (first _ _ s) b.0 a) (rising mid es fs (second _ _ s) t b.1 a)

  entries_joined : (mid : ℕ) (l r : FinMap nat_cmp V) → ((q : ℕ) → mid ≤ q → get l q ≡ None) → ((q : ℕ) → q < mid → get r q ≡ None) → entries (joined l r) ≡ entries l ++ entries r
  entries_joined mid l r left right =
      let s = rising mid (entries l) (entries r) (entries_sorted l) (entries_sorted r)
      (all_below mid (entries l) (λ q m. sym (get-entries l q) ∙ left q m))
      (all_from mid (entries r) (λ q m. sym (get-entries r q) ∙ right q m)) in
      ap entries (same (joined l r) (from_sorted (entries l ++ entries r)) (λ q. get-from_entries nat_cmp_total (entries l ++ entries r) q ∙ sym (get-from_sorted nat_cmp (entries l ++ entries r) q s)))
      ∙ entries-from_sorted nat_cmp (entries l ++ entries r) s

  no_items : (es : List (ℕ × V)) → length es ≡ 0 → es ≡ []
  no_items [] e = refl
  no_items (x ∷ es) e = absurd (omega arith)

  pub entries_empty : entries (empty {X = V} {R = nat_cmp}) ≡ []
  entries_empty = no_items (entries empty) (sym (len-entries empty) ∙ len-empty nat_cmp V)

  pub entries_single : (k : ℕ) (v : V) → entries (single k v) ≡ (k, v) ∷ []
  entries_single k v = entries-insert nat_cmp_total empty k v ∙ ap (put nat_cmp k v) entries_empty

  pub entries_all : (s n : ℕ) (ts : List (FinMap nat_cmp V × ℕ)) → ((i q : ℕ) → (q / 2 ^ s ≡ n + i → ⊥) → get (side_map ts i) q ≡ None) → entries (all_joined ts) ≡ flat_map (λ t. entries t.0) ts
  entries_all s n [] apart = entries_empty
  entries_all s n (t ∷ ts) apart =
      entries_joined ((n + 1) * 2 ^ s) t.0 (all_joined ts)
      (λ q m. let h = at_least s (n + 1) q m in apart zero q (λ e. omega arith))
      (λ q l. none_in_all ts q (λ i. apart (suc i) q (λ e. let h = from_least s (n + 1) q (omega arith) in omega arith)))
      ∙ ap (λ es. entries t.0 ++ es) (entries_all s (n + 1) ts (λ i q away. apart (suc i) q (λ e. away (omega arith))))
