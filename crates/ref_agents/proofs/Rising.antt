-- The commits that are held, which ascend.
use Rattle.std.proofs.Common.{Equal, Greater, Less, Ordering, ◌≡◌, ◌<◌, ℕ, cond, Bool, true, false, ◌⊎◌, inl, inr, List, [], ◌∷◌, arith, subst}
use Rattle.std.specs.BTreeSet.{insert_key}
use Rattle.std.specs.Cmp.{nat_cmp_is}
use Rattle.std.specs.List.{AllByRecursion}
use Rattle.std.specs.Ordering.{MatchOrdering, match_ordering, nat_cmp}
use Rattle.std.specs.Set.{remove_key}
use Rattle.std.proofs.lemmas.Bool.{cases_order}
use Rattle.ref_agents.specs.Carried.{AreRising}

rank : (k x : ℕ) → MatchOrdering (nat_cmp k x) (k < x) (k ≡ x) (x < k)
rank k x = by (cases_order k x) where
  by : (k ≡ x) ⊎ ((k < x) ⊎ (x < k)) → MatchOrdering (nat_cmp k x) (k < x) (k ≡ x) (x < k)
  by (inl same) = subst (λ o. MatchOrdering o (k < x) (k ≡ x) (x < k)) (nat_cmp_is k x Equal same) same
  by (inr (inl less)) = subst (λ o. MatchOrdering o (k < x) (k ≡ x) (x < k)) (nat_cmp_is k x Less less) less
  by (inr (inr more)) = subst (λ o. MatchOrdering o (k < x) (k ≡ x) (x < k)) (nat_cmp_is k x Greater more) more

all_above : (k x : ℕ) → k < x → (xs : List ℕ) → AllByRecursion (λ m. x < m) xs → AllByRecursion (λ m. k < m) xs
all_above k x less [] all = tt
all_above k x less (y ∷ ys) all = (omega (arith, less, all.0), all_above k x less ys all.1)

all_inserted : (n k : ℕ) (xs : List ℕ) → AllByRecursion (λ m. n < m) xs → n < k → AllByRecursion (λ m. n < m) (insert_key nat_cmp xs k)
all_inserted n k [] all above = (above, tt)
all_inserted n k (x ∷ xs) all above = by (nat_cmp k x) (all_inserted n k xs all.1 above) where
  by : (o : Ordering) → AllByRecursion (λ m. n < m) (insert_key nat_cmp xs k) → AllByRecursion (λ m. n < m) (match_ordering o (k ∷ x ∷ xs) (x ∷ xs) (x ∷ insert_key nat_cmp xs k))
  by Less later = (above, all)
  by Equal later = all
  by Greater later = (all.0, later)

-- with one more
pub insert_rises : (ns : List ℕ) (k : ℕ) → AreRising ns → AreRising (insert_key nat_cmp ns k)
insert_rises [] k up = (tt, tt)
insert_rises (x ∷ xs) k up = by (nat_cmp k x) (rank k x) (insert_rises xs k up.1) where
  by : (o : Ordering) → MatchOrdering o (k < x) (k ≡ x) (x < k) → AreRising (insert_key nat_cmp xs k) → AreRising (match_ordering o (k ∷ x ∷ xs) (x ∷ xs) (x ∷ insert_key nat_cmp xs k))
  by Less less later = ((less, all_above k x less xs up.0), up)
  by Equal same later = up
  by Greater more later = (all_inserted x k xs up.0 more, later)

all_removed : (P : ℕ → Type 0) (test : ℕ → Bool) (xs : List ℕ) → AllByRecursion P xs → AllByRecursion P (remove_key test xs)
all_removed P test [] all = tt
all_removed P test (x ∷ xs) all = by (test x) (all_removed P test xs all.1) where
  by : (b : Bool) → AllByRecursion P (remove_key test xs) → AllByRecursion P (cond b xs (x ∷ remove_key test xs))
  by true later = all.1
  by false later = (all.0, later)

-- and without one
pub remove_rises : (test : ℕ → Bool) (ns : List ℕ) → AreRising ns → AreRising (remove_key test ns)
remove_rises test [] up = tt
remove_rises test (x ∷ xs) up = by (test x) (remove_rises test xs up.1) where
  by : (b : Bool) → AreRising (remove_key test xs) → AreRising (cond b xs (x ∷ remove_key test xs))
  by true later = up.1
  by false later = (all_removed (λ m. x < m) test xs up.0, later)
