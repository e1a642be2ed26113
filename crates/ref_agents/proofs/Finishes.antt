-- A store after a job.
use Rattle.std.proofs.Common.{◌≡◌, ◌∙◌, ◌<◌, ◌≤◌, ℕ, false, ◌⊎◌, inl, inr, List, length, Option, None, Some, Result, slice_get, refl, sym, ap, subst}
use Rattle.std.proofs.lemmas.Bool.{cases_lt}
use Rattle.std.proofs.lemmas.Option.{slice_get_past}
use Rattle.ref_value.specs.Edn.{Edn}
use Rattle.ref_fun.specs.Meaning.{Means}
use Rattle.ref_fun.specs.Rule.{Accepts}
use Rattle.ref_fun.specs.declared.carries.Carry.{Carry}
use Rattle.ref_fun.specs.declared.faults.Cause.{Cause}
use Rattle.ref_log.specs.Guards.{rule_at}
use Rattle.ref_log.specs.declared.guards.Guard.{Guard}
use Rattle.ref_agents.specs.Agents.{IsStore, carried, change_agent, is_carrying_at, is_carrying_if_here, job_out, out_if_here, put_agent, with_carries}
use Rattle.ref_agents.specs.Ends.{CanHave, after_end, ending, goes_out, judged}
use Rattle.ref_agents.specs.Indexed.{IndexedSeen, with_items}
use Rattle.ref_agents.specs.Jobs.{JobSeen}
use Rattle.ref_agents.specs.declared.accounts.SentBy.TheVariants.{Carried}
use Rattle.ref_agents.specs.declared.agents.Agent.{Agent}
use Rattle.ref_agents.specs.declared.faults.AgentError.{AgentError}
use Rattle.ref_agents.proofs.Carried.{Stands, carried_end}
use Rattle.ref_agents.proofs.Changed.{agent_at, kept_each, set_agent}
use Rattle.ref_agents.proofs.Ended.{accepted_after, agent_after, out_each}
use Rattle.ref_agents.proofs.JobsOut.{head_out, out_fine, out_idle}

-- an agent of which a job is on its way is here
pub here_out : (agents : List Agent) (g : ℕ) (job : JobSeen) → job_out agents g ≡ Some job → g < length agents
here_out agents g job out = by (cases_lt g (length agents)) where
  none : out_if_here g None ≡ Some job → ⊥
  none is = cc

  by : (g < length agents) ⊎ (length agents ≤ g) → g < length agents
  by (inl below) = below
  by (inr past) = absurd (none (sym (ap (out_if_here g) (slice_get_past agents g past)) ∙ out))

module _ (means : Means) (accepts : Accepts) (guards : List Guard) (agents : List Agent) (job : JobSeen) (outcome : Result Edn Cause) (judgement : Result Edn AgentError) (out : job_out agents job.agent ≡ Some job) where
  abbrev mid : List Agent
  mid = with_carries job.agent (goes_out judgement job.action.carries) agents

  store_end : judgement ≡ judged accepts (rule_at guards job.agent) outcome → means job.action.code job.action.args job.state ≡ outcome → CanHave accepts guards job.agent judgement
      → IsStore means accepts agents guards → IsStore means accepts (change_agent mid job.agent (ending judgement job.action.carries)) guards
  store_end is_judged meant can store =
      by (kept_each (λ (c : Carry). c.g) carried (Carried job.agent) means accepts guards (goes_out judgement job.action.carries) agents store)
      (out_each (λ (c : Carry). c.g) carried (Carried job.agent) (goes_out judgement job.action.carries) agents job.agent job out)
      (slice_get mid job.agent) refl where
        by : IsStore means accepts mid guards → job_out mid job.agent ≡ Some job → (there : Option Agent) → slice_get mid job.agent ≡ there
            → IsStore means accepts (put_agent mid job.agent (ending judgement job.action.carries) there) guards
        by before still None is = before
        by before still (Some x) is =
            set_agent means accepts mid guards job.agent (after_end x.mode judgement job.action.carries x)
            (agent_after means accepts (rule_at guards job.agent) job.agent x job outcome judgement job.action.carries (agent_at means mid job.agent x before.3 is)
            (out_fine means mid job.agent job x before.3 still is) (head_out mid job.agent job x is still) meant is_judged)
            (accepted_after accepts guards mid job.agent x x.mode judgement job.action.carries is can before.2) before

  idle : IsStore means accepts agents guards → is_carrying_at agents job.agent ≡ false
  idle store = by (slice_get agents job.agent) refl where
    by : (there : Option Agent) → slice_get agents job.agent ≡ there → is_carrying_at agents job.agent ≡ false
    by None is = ap is_carrying_if_here is
    by (Some x) is = ap is_carrying_if_here is ∙ out_idle means agents job.agent job x store.3 out is

pub stands_end : (means : Means) (accepts : Accepts) (guards : List Guard) (seen : IndexedSeen) (job : JobSeen) (outcome : Result Edn Cause) (judgement : Result Edn AgentError) (g : ℕ) (went carries : List Carry)
    → g ≡ job.agent → went ≡ goes_out judgement job.action.carries → carries ≡ job.action.carries → job_out seen.items job.agent ≡ Some job
    → judgement ≡ judged accepts (rule_at guards g) outcome → means job.action.code job.action.args job.state ≡ outcome → CanHave accepts guards g judgement
    → Stands means accepts guards seen → Stands means accepts guards (with_items seen (change_agent (with_carries g went seen.items) g (ending judgement carries)))
stands_end means accepts guards seen job outcome judgement g went carries at out_is carries_is out is_judged meant can stands =
    subst (λ n. Stands means accepts guards (with_items seen (change_agent (with_carries n went seen.items) n (ending judgement carries)))) (sym at)
    (subst (λ l. Stands means accepts guards (with_items seen (change_agent (with_carries job.agent l seen.items) job.agent (ending judgement carries)))) (sym out_is)
    (subst (λ l. Stands means accepts guards (with_items seen (change_agent (with_carries job.agent (goes_out judgement job.action.carries) seen.items) job.agent (ending judgement l)))) (sym carries_is) (
      store_end means accepts guards seen.items job outcome judgement out (subst (λ n. judgement ≡ judged accepts (rule_at guards n) outcome) at is_judged) meant (subst (λ n. CanHave accepts guards n judgement) at can) stands.0,
      carried_end seen.items job judgement out (idle means accepts guards seen.items job outcome judgement out stands.0) stands.1,
      stands.2,
    )))
