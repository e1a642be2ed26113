-- What is left of a join once a key is gone.
use Rattle.std.proofs.Common.{◌≡◌, ℕ, cond, Some, None, refl, sym, ap, ◌∙◌}
use Rattle.std.specs.Ordering.{nat_cmp, eq_by_cmp}
use Rattle.std.specs.Cmp.{nat_cmp_total}
use Rattle.std.specs.FinMap.{FinMap, get, empty, remove, get-empty, get-remove}
use Rattle.ref_pmap.specs.Joined.{joined, single}
use Rattle.ref_pmap.proofs.Joins.{single_none, or_else, get_joined, get_single, by_key, same}

module _ {V : Type 0} where
  -- a key that isn't there isn't there after a removal
  pub gone_none : (m : FinMap nat_cmp V) (k q : ℕ) → get m q ≡ None → get (remove m k) q ≡ None
  gone_none m k q none = get-remove nat_cmp_total m k q ∙ by_key (λ b. cond b None (get m q) ≡ None) q k (λ e. refl) none

  -- without a key that isn't there the map is the same
  pub gone_already : (m : FinMap nat_cmp V) (k : ℕ) → get m k ≡ None → m ≡ remove m k
  gone_already m k none = same _ _ (λ q. by_key (λ b. get m q ≡ cond b None (get m q)) q k (λ e. ap (get m) e ∙ none) refl ∙ sym (get-remove nat_cmp_total m k q))

  pub gone_single : (k : ℕ) (v : V) → remove (single k v) k ≡ empty
  gone_single k v = same _ _ (λ q.
      get-remove nat_cmp_total (single k v) k q ∙ ap (cond (eq_by_cmp nat_cmp q k) None) (get_single k v q)
      ∙ by_key (λ b. cond b None (cond b (Some v) None) ≡ None) q k (λ e. refl) refl ∙ sym (get-empty nat_cmp q))

  -- a key that is taken from one side, and isn't in the other one, is taken from the join
  pub gone_left : (l r : FinMap nat_cmp V) (k : ℕ) → get r k ≡ None → joined (remove l k) r ≡ remove (joined l r) k
  gone_left l r k none = same _ _ (λ q.
      get_joined (remove l k) r q ∙ ap (λ x. or_else x (get r q)) (get-remove nat_cmp_total l k q)
      ∙ by_key (λ b. or_else (cond b None (get l q)) (get r q) ≡ cond b None (or_else (get l q) (get r q))) q k (λ e. ap (get r) e ∙ none) refl
      ∙ ap (cond (eq_by_cmp nat_cmp q k) None) (sym (get_joined l r q)) ∙ sym (get-remove nat_cmp_total (joined l r) k q))

  pub gone_right : (l r : FinMap nat_cmp V) (k : ℕ) → get l k ≡ None → joined l (remove r k) ≡ remove (joined l r) k
  gone_right l r k none = same _ _ (λ q.
      get_joined l (remove r k) q ∙ ap (or_else (get l q)) (get-remove nat_cmp_total r k q)
      ∙ by_key (λ b. or_else (get l q) (cond b None (get r q)) ≡ cond b None (or_else (get l q) (get r q))) q k (λ e. ap (λ x. or_else x None) (ap (get l) e ∙ none)) refl
      ∙ ap (cond (eq_by_cmp nat_cmp q k) None) (sym (get_joined l r q)) ∙ sym (get-remove nat_cmp_total (joined l r) k q))

  pub gone_other : (k key : ℕ) (v : V) → (k ≡ key → ⊥) → single k v ≡ remove (single k v) key
  gone_other k key v apart = gone_already (single k v) key (single_none k v key (λ e. apart (sym e)))
