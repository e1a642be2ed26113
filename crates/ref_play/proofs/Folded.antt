-- What the fold of an account leaves.
use Rattle.std.proofs.Common.{◌≡◌, ℕ, zero, suc, ◌+◌, ◌==◌, ◌≤◌, cond, not, nat_lt, ◌&&◌, Bool, true, false, ◌⊎◌, inl, inr, List, [], ◌∷◌, ◌++◌, length, Option, None, Some, slice_get, slice_set, refl, sym, ap, ◌∙◌, arith}
use Rattle.std.proofs.lemmas.Bool.{and_parts, cases_eq, ne_eqb}
use Rattle.std.proofs.lemmas.List.{append-nil}
use Rattle.ref_value.specs.Edn.{Edn}
use Rattle.ref_agents.specs.Account.{AccountSeen, failing, folded, is_failed_mark, most_folded, number_of}
use Rattle.ref_agents.specs.Agents.{AgentsSeen, can_fold, can_fold_at, can_fold_if_here, carries_if_here, change_agent, error_at, error_if_here, folding, head_job, is_carrying_at, is_carrying_if_here, out_if_here, put_agent, with_agents, with_fold}
use Rattle.ref_agents.specs.Jobs.{JobSeen}
use Rattle.ref_agents.specs.declared.accounts.Handled.{Handled}
use Rattle.ref_agents.specs.declared.accounts.Queued.{Queued}
use Rattle.ref_agents.specs.declared.agents.Agent.{Agent}
use Rattle.ref_play.specs.Given.{failed_at, failed_if_here, given_at, given_if_here, handled_at, handled_if_here, queue_at, queue_if_here, waiting, waiting_at}
use Rattle.ref_play.specs.Runs.{AreCarried, is_out_at}
use Rattle.ref_play.proofs.Carried.{On, carried_more}
use Rattle.ref_play.proofs.Given.{put_elsewhere, seen_changed, seen_same}
use Rattle.ref_play.proofs.KeptJobs.{IsOut, away_same, stays}

-- ---- an account

few_by : (h : Handled) (hs : List Handled) (m : Bool) → is_failed_mark h.mark ≡ m → length (failing hs) ≤ length hs → length (failing (h ∷ hs)) ≤ length (h ∷ hs)
few_by h hs true is so = rw is (omega (arith, so))
few_by h hs false is so = rw is (omega (arith, so))

few : (hs : List Handled) → length (failing hs) ≤ length hs
few [] = omega arith
few (h ∷ hs) = few_by h hs (is_failed_mark h.mark) refl (few hs)

-- as many actions ended
pub number_kept : (account : AccountSeen) (v : Edn) → number_of (folded account v) ≡ number_of account
number_kept account v = omega (arith, few account.handled)

-- ---- an agent

abbrev pub with_folded : Agent → Agent
with_folded agent = record agent { account = folded agent.account agent.value }

pub folded_is : (agent : Agent) → can_fold agent ≡ true → folding agent ≡ with_folded agent
folded_is agent can = ap (λ b. cond b (with_folded agent) agent) can

folding_same : {X : Type 0} (see : Agent → X) → ((agent : Agent) → see (with_folded agent) ≡ see agent) → (agent : Agent) → see (folding agent) ≡ see agent
folding_same see same agent = by (can_fold agent) where
  by : (b : Bool) → see (cond b (with_folded agent) agent) ≡ see agent
  by true = same agent
  by false = refl

head_kept : (g : ℕ) (agent : Agent) (queue : List Queued) → head_job g (with_folded agent) queue ≡ head_job g agent queue
head_kept g agent [] = refl
head_kept g agent (q ∷ qs) = rw (number_kept agent.account agent.value) refl

out_kept : (g : ℕ) (agent : Agent) → out_if_here g (Some (with_folded agent)) ≡ out_if_here g (Some agent)
out_kept g agent = ap (λ job. cond agent.is_out job None) (head_kept g agent agent.account.queue)

-- ---- whether it can be folded

pub can_here : (agents : List Agent) (g : ℕ) → can_fold_at agents g ≡ true → (agent : Agent) × (slice_get agents g ≡ Some agent) × (can_fold agent ≡ true)
can_here agents g can = by (slice_get agents g) refl can where
  by : (there : Option Agent) → slice_get agents g ≡ there → can_fold_if_here there ≡ true → (agent : Agent) × (slice_get agents g ≡ Some agent) × (can_fold agent ≡ true)
  by None is can = absurd cc
  by (Some agent) is can = (agent, is, can)

set_as_it_is : (agents : List Agent) (g : ℕ) (agent : Agent) → slice_get agents g ≡ Some agent → slice_set agents g agent ≡ agents
set_as_it_is [] g agent is = refl
set_as_it_is (x ∷ xs) zero agent is =
    let same : x ≡ agent = cc in
    ap (λ (y : Agent). y ∷ xs) (sym same)
set_as_it_is (x ∷ xs) (suc g) agent is = ap (λ l. x ∷ l) (set_as_it_is xs g agent is)

-- one that can't be stays
pub not_folded : (store : AgentsSeen) (g : ℕ) → can_fold_at store.agents g ≡ false → with_fold store g ≡ store
not_folded store g can = ap (with_agents store) (by (slice_get store.agents g) refl can) where
  by : (there : Option Agent) → slice_get store.agents g ≡ there → can_fold_if_here there ≡ false → put_agent store.agents g folding there ≡ store.agents
  by None is can = refl
  by (Some agent) is can = ap (λ b. slice_set store.agents g (cond b (with_folded agent) agent)) can ∙ set_as_it_is store.agents g agent is

-- ---- what is seen of all agents

module _ (agents : List Agent) (h g : ℕ) where
  pub queue_folded : queue_at (change_agent agents h folding) g ≡ queue_at agents g
  queue_folded = seen_same queue_if_here agents h g folding (λ agent here. folding_same (λ (x : Agent). x.account.queue) (λ x. refl) agent)

  pub carrying_folded : is_carrying_at (change_agent agents h folding) g ≡ is_carrying_at agents g
  carrying_folded = seen_same is_carrying_if_here agents h g folding (λ agent here. folding_same (λ (x : Agent). x.is_carrying) (λ x. refl) agent)

  errors_folded : error_at (change_agent agents h folding) g ≡ error_at agents g
  errors_folded = seen_same error_if_here agents h g folding (λ agent here. folding_same (λ (x : Agent). x.error) (λ x. refl) agent)

  pub away_folded : is_out_at (change_agent agents h folding) g ≡ is_out_at agents g
  away_folded = away_same agents h g folding (λ agent. folding_same (λ (x : Agent). x.is_out) (λ x. refl) agent)

  pub out_folded : (job : JobSeen) → IsOut job g (slice_get agents g) → IsOut job g (slice_get (change_agent agents h folding) g)
  out_folded job is = stays (IsOut job) agents h folding g
      (λ agent here out. (
        folding_same (λ (x : Agent). out_if_here h (Some x)) (out_kept h) agent ∙ out.0,
        folding_same (λ (x : Agent). x.error) (λ x. refl) agent ∙ out.1,
        folding_same (λ (x : Agent). x.is_carrying) (λ x. refl) agent ∙ out.2,
      )) is

  -- what is seen of the one that is folded, where it is `left` of it
  changed : {X : Type 0} (see left : Option Agent → X) → ((agent : Agent) → see (Some (with_folded agent)) ≡ left (Some agent)) → can_fold_at agents h ≡ true
      → see (slice_get (change_agent agents h folding) g) ≡ cond (h == g) (left (slice_get agents g)) (see (slice_get agents g))
  changed {X} see left is can = at (can_here agents h can) where
    at : (agent : Agent) × (slice_get agents h ≡ Some agent) × (can_fold agent ≡ true) → see (slice_get (change_agent agents h folding) g) ≡ cond (h == g) (left (slice_get agents g)) (see (slice_get agents g))
    at (agent, here, can) = seen_changed see agents h g folding agent here ∙ by (cases_eq h g) where
      here_is : see (Some (folding agent)) ≡ left (slice_get agents h)
      here_is = ap (λ (x : Agent). see (Some x)) (folded_is agent can) ∙ (is agent ∙ ap left (sym here))

      by : (h ≡ g) ⊎ (h ≡ g → ⊥) → cond (h == g) (see (Some (folding agent))) (see (slice_get agents g)) ≡ cond (h == g) (left (slice_get agents g)) (see (slice_get agents g))
      by (inl same) = ap (λ l. cond (h == g) l (see (slice_get agents g))) (here_is ∙ ap (λ n. left (slice_get agents n)) same)
      by (inr other) = rw (ne_eqb h g other) refl

  pub given_folded : can_fold_at agents h ≡ true → given_at (change_agent agents h folding) g ≡ cond (h == g) (failed_at agents g ++ waiting_at agents g) (given_at agents g)
  given_folded can = changed given_if_here (λ there. failed_if_here there ++ waiting (queue_if_here there)) (λ agent. refl) can

  pub handled_folded : can_fold_at agents h ≡ true → handled_at (change_agent agents h folding) g ≡ cond (h == g) (failed_at agents g) (handled_at agents g)
  handled_folded can = changed handled_if_here failed_if_here (λ agent. refl) can

-- ---- what is carried: the agent that is folded carries nothing

idle_by : (b c : Bool) → (not b && c) ≡ true → b ≡ true → ⊥
idle_by true c can is = cc
idle_by false c can is = cc

idle : (agents : List Agent) (h : ℕ) → can_fold_at agents h ≡ true → is_carrying_at agents h ≡ true → ⊥
idle agents h can is = by (can_here agents h can) where
  by : (agent : Agent) × (slice_get agents h ≡ Some agent) × (can_fold agent ≡ true) → ⊥
  by (agent, here, can) = idle_by agent.is_carrying (nat_lt (number_of agent.account) most_folded) can (sym (ap is_carrying_if_here here) ∙ is)

pub carried_folded : (agents : List Agent) (h : ℕ) → can_fold_at agents h ≡ true → length agents ≤ length (change_agent agents h folding) → AreCarried agents → AreCarried (change_agent agents h folding)
carried_folded agents h can count are =
    carried_more agents (change_agent agents h folding) count on (λ g. []) (λ g. queue_folded agents h g ∙ sym (append-nil (queue_at agents g))) (λ g. tt) (λ f g. refl)
    (λ g is. errors_folded agents h g ∙ are.sound g (sym (carrying_folded agents h g) ∙ is)) are where
      on : On agents (change_agent agents h folding) count
      on f is = (
        carrying_folded agents h f ∙ is,
        ap carries_if_here (put_elsewhere agents h f folding (slice_get agents h) (λ same. idle agents h can (ap (is_carrying_at agents) same ∙ is))),
      )
