-- What is told of the references of a world up to a number, it is told of all.
use Rattle.std.proofs.Common.{◌≡◌, ℕ, ◌+◌, ◌<◌, ◌≤◌, ◌&&◌, ◌⊎◌, ⊎_elim, true, false, List, [], ◌∷◌, length, get_or, take, Option, None, Some, refl, ap, ◌∙◌, arith, is_some, zero, suc}
use Rattle.std.proofs.lemmas.Bool.{cases_lt}
use Rattle.std.proofs.lemmas.Option.{get_or_from_slice_get, slice_get_past, slice_get_within}
use Rattle.std.proofs.lemmas.List.Folds.{list_all_more}
use Rattle.std.specs.List.{list_all}
use Rattle.std.specs.Prelude.{slice_get}
use Rattle.ref_value.specs.Edn.{Edn}
use Rattle.ref_fun.specs.Core.{core_accepts}
use Rattle.ref_fun.specs.declared.rules.Rule.{Rule}
use Rattle.ref_log.specs.Guards.{passes_if_here}
use Rattle.ref_agents.specs.Agents.{account_at, account_if_here}
use Rattle.ref_agents.specs.declared.accounts.Queued.{Queued}
use Rattle.ref_agents.specs.declared.agents.Agent.{Agent}
use Rattle.ref_audit.specs.OwnDump.{account_fact, is_small_queued, is_small_rule, rule_fact}

pub fact_of : (there : Option Edn) (rule : Option Rule) → passes_if_here core_accepts rule there ≡ true → is_small_rule rule ≡ true → rule_fact there rule ≡ true
fact_of None rule accepted small = refl
fact_of (Some v) rule accepted small = ap (λ b. b && is_small_rule rule) accepted ∙ small

-- a list ends where there is nothing
ends : {X : Type 0} (xs : List X) (n : ℕ) → is_some (slice_get xs n) ≡ false → length xs ≤ n
ends [] n none = omega arith
ends (x ∷ xs) zero none = absurd cc
ends (x ∷ xs) (suc n) none = omega (arith, ends xs n none)

module _ (values : List Edn) (rule : ℕ → Option Rule) (n : ℕ) (below : (k : ℕ) → k < n → rule_fact (slice_get values k) (rule k) ≡ true) where
  pub all_past : length values ≤ n → (k : ℕ) → rule_fact (slice_get values k) (rule k) ≡ true
  all_past few k =
      let cases : (k < n) ⊎ (n ≤ k) = cases_lt k n in
      ⊎_elim (λ h. below k h) (λ h. ap (λ o. rule_fact o (rule k)) (slice_get_past values k (omega arith))) cases

  pub all_here : is_some (slice_get values n) ≡ false → (k : ℕ) → rule_fact (slice_get values k) (rule k) ≡ true
  all_here none = all_past (ends values n none)

account_none : (o : Option Agent) → is_some (account_if_here o) ≡ false → is_some o ≡ false
account_none None none = refl
account_none (Some agent) none = absurd cc

module _ (agents : List Agent) (n : ℕ) (below : (k : ℕ) → k < n → account_fact (account_at agents k) ≡ true) where
  pub accounts_past : length agents ≤ n → (k : ℕ) → account_fact (account_at agents k) ≡ true
  accounts_past few k =
      let cases : (k < n) ⊎ (n ≤ k) = cases_lt k n in
      ⊎_elim (λ h. below k h) (λ h. ap (λ o. account_fact (account_if_here o)) (slice_get_past agents k (omega arith))) cases

  pub accounts_here : is_some (account_at agents n) ≡ false → (k : ℕ) → account_fact (account_at agents k) ≡ true
  accounts_here none = accounts_past (ends agents n (account_none (slice_get agents n) none))

-- one more action that waits
pub queued_more : (qs : List Queued) (i : ℕ) (q : Queued) → slice_get qs i ≡ Some q → is_small_queued q ≡ true → list_all is_small_queued (take i qs) ≡ true → list_all is_small_queued (take (i + 1) qs) ≡ true
queued_more qs i q there small before =
    let same : get_or qs i q ≡ q = get_or_from_slice_get qs i q q there in
    list_all_more is_small_queued qs i q (slice_get_within qs i q there) ∙ (ap (λ b. b && is_small_queued (get_or qs i q)) before ∙ (ap is_small_queued same ∙ small))
