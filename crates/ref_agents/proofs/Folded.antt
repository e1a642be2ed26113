-- Accounts that are folded.
use Rattle.std.proofs.Common.{◌≡◌, ◌∙◌, ℕ, ◌+◌, ◌-◌, ◌<◌, ◌≤◌, nat_lt, zero, suc, Bool, true, false, not, List, [], ◌∷◌, length, Option, None, Some, Ok, if◌then◌else◌, is_some, slice_get, slice_set, refl, sym, ap, arith}
use Rattle.ref_value.specs.Edn.{Edn}
use Rattle.ref_fun.specs.Meaning.{Means}
use Rattle.ref_agents.specs.Account.{AccountSeen, after_handled, failing, fit_marks, folded, is_failed_mark, most_folded, number_of}
use Rattle.ref_agents.specs.Agents.{AgentsSeen, IsAgent, can_fold, can_fold_at, can_fold_if_here, folding, head_job, is_ready_if_here, out_if_here, put_agent, with_agents, with_fold}
use Rattle.ref_agents.specs.declared.accounts.Handled.{Handled}
use Rattle.ref_agents.specs.declared.accounts.Mark.{Mark}
use Rattle.ref_agents.specs.declared.accounts.Mark.TheVariants.{Done, Failed, Passed}
use Rattle.ref_agents.specs.declared.accounts.Queued.{Queued}
use Rattle.ref_agents.specs.declared.agents.Agent.{Agent}
use Rattle.ref_agents.proofs.Changed.{first, not_both, same_set, second}

-- ---- the actions that stay

-- they leave the state
keeps_by : (means : Means) (h : Handled) (hs : List Handled) (v : Edn) (m : Mark) → h.mark ≡ m
    → after_handled means (failing hs) (Ok v) ≡ Ok v → after_handled means (failing (h ∷ hs)) (Ok v) ≡ Ok v
keeps_by means h hs v Done is so = rw is so
keeps_by means h hs v Failed is so = rw is so
keeps_by means h hs v Passed is so = rw is so

keeps : (means : Means) (hs : List Handled) (v : Edn) → after_handled means (failing hs) (Ok v) ≡ Ok v
keeps means [] v = refl
keeps means (h ∷ hs) v = keeps_by means h hs v h.mark refl (keeps means hs v)

fits_one : (failed m : Bool) (h : Handled) → is_failed_mark h.mark ≡ m → fit_marks failed (h ∷ []) ≡ true → fit_marks failed (failing (h ∷ [])) ≡ true
fits_one true true h is fit = rw (is, is) refl
fits_one true false h is fit = absurd (not_both is fit)
fits_one false true h is fit = absurd (not_both (ap not is) fit)
fits_one false false h is fit = rw is refl

not_true : (b : Bool) → not b ≡ true → b ≡ false
not_true true is = absurd (not_both refl is)
not_true false is = refl

-- and their marks fit
fits : (failed : Bool) (hs : List Handled) → fit_marks failed hs ≡ true → fit_marks failed (failing hs) ≡ true
fits failed [] fit = fit
fits failed (h ∷ []) fit = fits_one failed (is_failed_mark h.mark) h refl fit
fits failed (h ∷ next ∷ hs) fit =
    rw (not_true (is_failed_mark h.mark) (first (not (is_failed_mark h.mark)) (fit_marks failed (next ∷ hs)) fit))
    (fits failed (next ∷ hs) (second (not (is_failed_mark h.mark)) (fit_marks failed (next ∷ hs)) fit))

few_by : (h : Handled) (hs : List Handled) (m : Bool) → is_failed_mark h.mark ≡ m → length (failing hs) ≤ length hs → length (failing (h ∷ hs)) ≤ length (h ∷ hs)
few_by h hs true is so = rw is (omega (arith, so))
few_by h hs false is so = rw is (omega (arith, so))

pub few : (hs : List Handled) → length (failing hs) ≤ length hs
few [] = omega arith
few (h ∷ hs) = few_by h hs (is_failed_mark h.mark) refl (few hs)

number_kept : (account : AccountSeen) (v : Edn) → number_of (folded account v) ≡ number_of account
number_kept account v = omega (arith, few account.handled)

-- what a fold leaves
pub folded_is : (account : AccountSeen) (v : Edn) (past : ℕ) (left : List Handled) → left ≡ failing account.handled
    → past ≡ account.past + (length account.handled - length left)
    → record { start = v; past = past; handled = left; queue = account.queue } ≡ folded account v
folded_is account v past left is count = rw (count, is) refl

-- ---- an agent

abbrev pub with_folded : Agent → Agent
with_folded agent = record agent { account = folded agent.account agent.value }

pub folded_agent : (means : Means) (x : Agent) → IsAgent means x → IsAgent means (with_folded x)
folded_agent means x ok = record {
  folded = keeps means x.account.handled x.value;
  marked = fits (is_some x.error) x.account.handled ok.marked;
  single = ok.single;
  idle = ok.idle;
}

head_kept : (g : ℕ) (x : Agent) (queue : List Queued) → head_job g (with_folded x) queue ≡ head_job g x queue
head_kept g x [] = refl
head_kept g x (q ∷ qs) = rw (number_kept x.account x.value) refl

pub out_kept : (g : ℕ) (x : Agent) → out_if_here g (Some (with_folded x)) ≡ out_if_here g (Some x)
out_kept g x = rw (head_kept g x x.account.queue) refl

pub ready_kept : (unreleased : List ℕ) (x : Agent) → is_ready_if_here unreleased (Some (with_folded x)) ≡ is_ready_if_here unreleased (Some x)
ready_kept unreleased x = refl

-- ---- an agent that is folded, if it can be

pub folding_agent : (means : Means) (x : Agent) → IsAgent means x → IsAgent means (folding x)
folding_agent means x ok = by (can_fold x) where
  by : (b : Bool) → IsAgent means (if b then with_folded x else x)
  by true = folded_agent means x ok
  by false = ok

pub folding_value : (x : Agent) → (folding x).value ≡ x.value
folding_value x = by (can_fold x) where
  by : (b : Bool) → (if b then with_folded x else x).value ≡ x.value
  by true = refl
  by false = refl

pub folding_out : (g : ℕ) (x : Agent) → out_if_here g (Some (folding x)) ≡ out_if_here g (Some x)
folding_out g x = by (can_fold x) where
  by : (b : Bool) → out_if_here g (Some (if b then with_folded x else x)) ≡ out_if_here g (Some x)
  by true = out_kept g x
  by false = refl

pub folding_ready : (unreleased : List ℕ) (x : Agent) → is_ready_if_here unreleased (Some (folding x)) ≡ is_ready_if_here unreleased (Some x)
folding_ready unreleased x = by (can_fold x) where
  by : (b : Bool) → is_ready_if_here unreleased (Some (if b then with_folded x else x)) ≡ is_ready_if_here unreleased (Some x)
  by true = ready_kept unreleased x
  by false = refl

-- ---- whether it can be folded

not_folded_here : (agents : List Agent) (g : ℕ) (there : Option Agent) → slice_get agents g ≡ there → can_fold_if_here there ≡ false → put_agent agents g folding there ≡ agents
not_folded_here agents g None is can = refl
not_folded_here agents g (Some x) is can = rw can (same_set agents g x is)

-- one that can't be stays
pub not_folded : (store : AgentsSeen) (g : ℕ) → can_fold_at store.agents g ≡ false → with_fold store g ≡ store
not_folded store g can = ap (with_agents store) (not_folded_here store.agents g (slice_get store.agents g) refl can)

-- one that can be is folded
pub folding_is : (agents : List Agent) (g : ℕ) (x : Agent) → slice_get agents g ≡ Some x → can_fold_at agents g ≡ true → folding x ≡ with_folded x
folding_is agents g x is can = rw (sym (ap can_fold_if_here is) ∙ can) refl
