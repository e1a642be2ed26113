-- What may be taken, and what its answer says of what goes out with a job.
use Rattle.std.proofs.Common.{◌≡◌, ℕ, ◌&&◌, cond, not, is_some, Bool, true, false, List, [], ◌∷◌, length, Option, None, Some, Result, Ok, Err, slice_get, refl, sym, ap, subst, ◌∙◌}
use Rattle.std.specs.List.{AllByRecursion}
use Rattle.std.proofs.lemmas.Bool.{and_parts, not-true}
use Rattle.ref_value.specs.Edn.{Edn}
use Rattle.ref_fun.specs.Rule.{Accepts}
use Rattle.ref_fun.specs.declared.carries.Carry.{Carry}
use Rattle.ref_log.specs.Guards.{keys_at, rule_at}
use Rattle.ref_agents.specs.Account.{has_point, has_released, is_released_by, number_of}
use Rattle.ref_agents.specs.Agents.{AgentsSeen, head_job, is_carrying_if_here, is_ready_at, is_ready_if_here, job_out, out_if_here}
use Rattle.ref_agents.specs.Ends as ends
use Rattle.ref_agents.specs.Ends.{IsAnswer, IsAnswerIfHere, IsAnswerOf, judged}
use Rattle.ref_agents.specs.Jobs.{JobSeen, RanSeen}
use Rattle.ref_agents.specs.declared.accounts.Queued.{Queued}
use Rattle.ref_agents.specs.declared.accounts.SentBy.{SentBy}
use Rattle.ref_agents.specs.declared.accounts.SentBy.TheVariants.{Outside, Commit, Carried}
use Rattle.ref_agents.specs.declared.agents.Agent.{Agent}
use Rattle.ref_agents.specs.declared.agents.ErrorMode.{ErrorMode}
use Rattle.ref_agents.specs.declared.agents.ErrorMode.TheVariants.{Fail, Continue}
use Rattle.ref_agents.specs.declared.ends.Finished.{Finished}
use Rattle.ref_agents.specs.declared.ends.Finished.TheVariants.{Changed, Failed, Continued}
use Rattle.ref_agents.specs.declared.faults.AgentError.{AgentError}
use Rattle.ref_play.specs.Given.{goes_out, queue_if_here}
use Rattle.ref_play.specs.Laws.{IsFree, MayTake}
use Rattle.ref_play.specs.Runs.{AreCarried, IsWaiting}
use Rattle.ref_play.proofs.Receivers.{AreHere}

free_by : (unreleased : List ℕ) (by : SentBy) → is_released_by unreleased by ≡ true → IsFree unreleased by
free_by unreleased Outside is = tt
free_by unreleased (Commit point) is = not-true (has_point unreleased point) is
free_by unreleased (Carried g) is = absurd cc

pub may_be_taken : (store : AgentsSeen) (g : ℕ) → is_ready_at store g ≡ true → MayTake store g
may_be_taken store g is = by (slice_get store.agents g) refl is where
  by : (there : Option Agent) → slice_get store.agents g ≡ there → is_ready_if_here store.unreleased there ≡ true → MayTake store g
  by None here is = absurd cc
  by (Some agent) here is = queued agent.account.queue refl parts.1 where
    parts : ((not (is_some agent.error) && not agent.is_out && not agent.is_carrying) ≡ true) × (has_released store.unreleased agent.account.queue ≡ true)
    parts = and_parts (not (is_some agent.error) && not agent.is_out && not agent.is_carrying) (has_released store.unreleased agent.account.queue) is

    quiet : agent.is_carrying ≡ false
    quiet = not-true agent.is_carrying (and_parts (not (is_some agent.error) && not agent.is_out) (not agent.is_carrying) parts.0).1

    queued : (queue : List Queued) → agent.account.queue ≡ queue → has_released store.unreleased queue ≡ true → MayTake store g
    queued [] waits free = absurd cc
    queued (q ∷ qs) waits free = record {
      released = ap is_carrying_if_here here ∙ quiet;
      first = q;
      rest = qs;
      queue = ap queue_if_here here ∙ waits;
      is_free = free_by store.unreleased q.by free;
    }

-- what a job that is on its way carries goes to agents that are here
pub carried_here : (agents : List Agent) (job : JobSeen) → job_out agents job.agent ≡ Some job → AreCarried agents → AreHere (length agents) job.action.carries
carried_here agents job out are = by (slice_get agents job.agent) refl out where
  by : (there : Option Agent) → slice_get agents job.agent ≡ there → out_if_here job.agent there ≡ Some job → AreHere (length agents) job.action.carries
  by None here is = absurd cc
  by (Some agent) here is = queued agent.is_out agent.account.queue refl is where
    queued : (b : Bool) (queue : List Queued) → agent.account.queue ≡ queue → cond b (head_job job.agent agent queue) None ≡ Some job → AreHere (length agents) job.action.carries
    queued false queue waits is = absurd cc
    queued true [] waits is = absurd cc
    queued true (q ∷ qs) waits is =
        let same : job ≡ record { agent = job.agent; number = number_of agent.account; action = q.action; state = agent.value } = cc in
        let waiting = subst (AllByRecursion (IsWaiting agents)) (ap queue_if_here here ∙ waits) (are.waits job.agent) in
        subst (λ (c : List Carry). AreHere (length agents) c) (sym (ap (λ (j : JobSeen). j.action.carries) same)) waiting.0

-- what goes out is told by the answer
pub answered_out : (accepts : Accepts) (store : AgentsSeen) (ran : RanSeen) (answer : Finished) (cs : List Carry) → IsAnswerOf accepts store ran answer
    → ends.goes_out (judged accepts (rule_at store.guards ran.job.agent) ran.outcome) cs ≡ goes_out answer cs
answered_out accepts store ran answer cs is = by (slice_get store.agents ran.job.agent) is where
  at : (mode : ErrorMode) (g : ℕ) (keys : List Edn) (before : Edn) (judgement : Result Edn AgentError) (answer : Finished) → IsAnswer mode g keys before judgement answer → ends.goes_out judgement cs ≡ goes_out answer cs
  at mode g keys before (Ok v) (Changed notices) is = refl
  at Fail g keys before (Ok v) (Failed error) is = absurd is
  at Continue g keys before (Ok v) (Failed error) is = absurd is
  at Fail g keys before (Ok v) (Continued error) is = absurd is
  at Continue g keys before (Ok v) (Continued error) is = absurd is
  at Fail g keys before (Err error) (Changed notices) is = absurd is
  at Continue g keys before (Err error) (Changed notices) is = absurd is
  at mode g keys before (Err error) (Failed told) is = refl
  at mode g keys before (Err error) (Continued told) is = refl

  by : (there : Option Agent) → IsAnswerIfHere accepts store.guards ran answer there → ends.goes_out (judged accepts (rule_at store.guards ran.job.agent) ran.outcome) cs ≡ goes_out answer cs
  by None is = absurd is
  by (Some agent) is = at agent.mode ran.job.agent (keys_at store.guards ran.job.agent) agent.value (judged accepts (rule_at store.guards ran.job.agent) ran.outcome) answer is
