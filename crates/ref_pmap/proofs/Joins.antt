-- What two maps say of their join. Maps are shown equal by what they have at each key.
use Rattle.std.proofs.Common.{◌≡◌, ℕ, Bool, true, false, cond, List, [], ◌∷◌, ◌++◌, Option, Some, None, refl, sym, ap, ◌∙◌}
use Rattle.std.specs.Ordering.{nat_cmp, eq_by_cmp}
use Rattle.std.specs.Cmp.{nat_cmp_total}
use Rattle.std.specs.FinMap.{FinMap, get, entries, empty, insert, find, get-entries, get-from_entries, get-insert, get-empty, same_map, nat_cmp-IsAntisymmetric}
use Rattle.std.specs.Ordering.{is_eq}
use Rattle.std.specs.declared.cmp.Ordering.TheVariants.{Less, Equal, Greater}
use Rattle.ref_pmap.specs.Joined.{joined, single}

-- what holds of both answers of a test whether q is k holds of the test
pub by_key : (P : Bool → Type 0) (q k : ℕ) → (q ≡ k → P true) → P false → P (eq_by_cmp nat_cmp q k)
by_key P q k at other =
    elim (nat_cmp q k) as (λ r. nat_cmp q k ≡ r → P (is_eq r)) [
      | Less ↦ λ e. other
      | Equal ↦ λ e. at (nat_cmp-IsAntisymmetric q k e)
      | Greater ↦ λ e. other
    ] refl

module _ {V : Type 0} where
  -- the first that is there
  abbrev pub or_else : Option V → Option V → Option V
  or_else None y = y
  or_else (Some x) y = Some x

  pub else_none : (x : Option V) → or_else x None ≡ x
  else_none None = refl
  else_none (Some x) = refl

  by_test : (b : Bool) (v : V) (x y : Option V) → cond b (Some v) (or_else x y) ≡ or_else (cond b (Some v) x) y
  by_test true v x y = refl
  by_test false v x y = refl

  -- what is found among both is found in the first, or else in the second
  find_both : (q : ℕ) (es fs : List (ℕ × V)) → find nat_cmp q (es ++ fs) ≡ or_else (find nat_cmp q es) (find nat_cmp q fs)
  find_both q [] fs = refl
  find_both q (e ∷ es) fs = ap (cond (eq_by_cmp nat_cmp q e.0) (Some e.1)) (find_both q es fs) ∙ by_test (eq_by_cmp nat_cmp q e.0) e.1 (find nat_cmp q es) (find nat_cmp q fs)

  pub get_joined : (m n : FinMap nat_cmp V) (q : ℕ) → get (joined m n) q ≡ or_else (get m q) (get n q)
  get_joined m n q =
      get-from_entries nat_cmp_total (entries m ++ entries n) q ∙ find_both q (entries m) (entries n)
      ∙ ap (λ x. or_else x (find nat_cmp q (entries n))) (sym (get-entries m q)) ∙ ap (or_else (get m q)) (sym (get-entries n q))

  pub get_left : (m n : FinMap nat_cmp V) (q : ℕ) → get n q ≡ None → get (joined m n) q ≡ get m q
  get_left m n q e = get_joined m n q ∙ ap (or_else (get m q)) e ∙ else_none (get m q)

  pub get_right : (m n : FinMap nat_cmp V) (q : ℕ) → get m q ≡ None → get (joined m n) q ≡ get n q
  get_right m n q e = get_joined m n q ∙ ap (λ x. or_else x (get n q)) e

  pub get_single : (k : ℕ) (v : V) (q : ℕ) → get (single k v) q ≡ cond (eq_by_cmp nat_cmp q k) (Some v) None
  get_single k v q = get-insert nat_cmp_total empty k v q ∙ ap (cond (eq_by_cmp nat_cmp q k) (Some v)) (get-empty nat_cmp q)

  -- maps with the same value at each key are equal
  pub same : (m n : FinMap nat_cmp V) → ((q : ℕ) → get m q ≡ get n q) → m ≡ n
  same m n h = same_map nat_cmp_total nat_cmp-IsAntisymmetric m n h

  -- an entry that is added to a side is added to the join; on the right, where the left side lacks the key
  pub with_left : (l r : FinMap nat_cmp V) (k : ℕ) (v : V) → joined (insert l k v) r ≡ insert (joined l r) k v
  with_left l r k v = same _ _ (λ q.
      get_joined (insert l k v) r q ∙ ap (λ x. or_else x (get r q)) (get-insert nat_cmp_total l k v q)
      ∙ sym (by_test (eq_by_cmp nat_cmp q k) v (get l q) (get r q))
      ∙ ap (cond (eq_by_cmp nat_cmp q k) (Some v)) (sym (get_joined l r q)) ∙ sym (get-insert nat_cmp_total (joined l r) k v q))

  pub with_right : (l r : FinMap nat_cmp V) (k : ℕ) (v : V) → get l k ≡ None → joined l (insert r k v) ≡ insert (joined l r) k v
  with_right l r k v none = same _ _ (λ q.
      get_joined l (insert r k v) q ∙ ap (or_else (get l q)) (get-insert nat_cmp_total r k v q)
      ∙ by_key (λ b. or_else (get l q) (cond b (Some v) (get r q)) ≡ cond b (Some v) (or_else (get l q) (get r q))) q k
      (λ e. ap (λ x. or_else x (Some v)) (ap (get l) e ∙ none)) refl
      ∙ ap (cond (eq_by_cmp nat_cmp q k) (Some v)) (sym (get_joined l r q)) ∙ sym (get-insert nat_cmp_total (joined l r) k v q))

  -- a key that isn't there isn't there after an insert at another key
  pub still_none : (m : FinMap nat_cmp V) (k : ℕ) (v : V) (q : ℕ) → (q ≡ k → ⊥) → get m q ≡ None → get (insert m k v) q ≡ None
  still_none m k v q apart none = get-insert nat_cmp_total m k v q ∙ by_key (λ b. cond b (Some v) (get m q) ≡ None) q k (λ e. absurd (apart e)) none

  pub single_none : (k : ℕ) (v : V) (q : ℕ) → (q ≡ k → ⊥) → get (single k v) q ≡ None
  single_none k v q apart = still_none empty k v q apart (get-empty nat_cmp q)

  -- of two values at one key the later one stays
  pub single_again : (k : ℕ) (v w : V) → single k w ≡ insert (single k v) k w
  single_again k v w = same _ _ (λ q.
      get_single k w q
      ∙ by_key (λ b. cond b (Some w) None ≡ cond b (Some w) (cond b (Some v) None)) q k (λ e. refl) refl
      ∙ ap (cond (eq_by_cmp nat_cmp q k) (Some w)) (sym (get_single k v q)) ∙ sym (get-insert nat_cmp_total (single k v) k w q))

  pub joined_empty : (m : FinMap nat_cmp V) → joined m empty ≡ m
  joined_empty m = same _ _ (λ q. get_left m empty q (get-empty nat_cmp q))
