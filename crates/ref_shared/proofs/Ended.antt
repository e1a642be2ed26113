-- The notices of an action that ended are those of what its function gave, or there are none.
use Rattle.std.proofs.Common.{◌≡◌, ◌∙◌, ℕ, Bool, true, false, List, [], ◌∷◌, Option, None, Some, ap, inl, inr, ◌⊎◌, refl, slice_get}
use Rattle.std.specs.Prelude.{Result, Ok, Err, if◌then◌else◌}
use Rattle.ref_value.specs.Edn.{Edn}
use Rattle.ref_fun.specs.Meaning.{Means}
use Rattle.ref_fun.specs.Rule.{Accepts, passes}
use Rattle.ref_fun.specs.declared.faults.Cause.{Cause}
use Rattle.ref_fun.specs.declared.rules.Rule.{Rule}
use Rattle.ref_agents.specs.Agents.{AgentsSeen, head_job, job_out, out_if_here}
use Rattle.ref_agents.specs.Ends.{IsAnswer, IsAnswerIfHere, IsAnswerOf, judged}
use Rattle.ref_agents.specs.Jobs.{JobSeen, RanSeen}
use Rattle.ref_agents.specs.declared.accounts.Queued.{Queued}
use Rattle.ref_agents.specs.declared.agents.Agent.{Agent}
use Rattle.ref_agents.specs.declared.agents.ErrorMode.{ErrorMode}
use Rattle.ref_agents.specs.declared.agents.ErrorMode.TheVariants.{Fail, Continue}
use Rattle.ref_agents.specs.declared.ends.Finished.{Finished}
use Rattle.ref_agents.specs.declared.ends.Finished.TheVariants.{Changed, Failed, Continued}
use Rattle.ref_agents.specs.declared.faults.AgentError.{AgentError}
use Rattle.ref_log.specs.Guards.{keys_at, rule_at}
use Rattle.ref_log.specs.declared.guards.Guard.{Guard}
use Rattle.ref_shared.specs.Sinks.{AreOfAction, notices_in}

same_some : (a b : JobSeen) → Some a ≡ Some b → a ≡ b
same_some a b h = cc

none_some : (a : JobSeen) → None ≡ Some a → ⊥
none_some a h = cc

-- the state of a job is its agent's
head_state : (g : ℕ) (agent : Agent) (queue : List Queued) (job : JobSeen) → head_job g agent queue ≡ Some job → agent.value ≡ job.state
head_state g agent [] job is = absurd (none_some job is)
head_state g agent (q ∷ qs) job is = ap (λ (j : JobSeen). j.state) (same_some _ job is)

out_state_by : (b : Bool) (g : ℕ) (agent : Agent) (job : JobSeen) → (if b then head_job g agent agent.account.queue else None) ≡ Some job → agent.value ≡ job.state
out_state_by true g agent job is = head_state g agent agent.account.queue job is
out_state_by false g agent job is = absurd (none_some job is)

abbrev value_or : Edn → Result Edn AgentError → Edn
value_or other (Ok v) = v
value_or other (Err e) = other

-- a judgement that is a value is what came out
judged_by : (b : Bool) (v w : Edn) (e : AgentError) → (if b then Ok w else Err e) ≡ Ok v → w ≡ v
judged_by true v w e is = ap (value_or w) is
judged_by false v w e is = absurd cc

judged_value : (accepts : Accepts) (rule : Option Rule) (outcome : Result Edn Cause) (v : Edn) → judged accepts rule outcome ≡ Ok v → outcome ≡ Ok v
judged_value accepts rule (Ok w) v is = ap Ok (judged_by (passes accepts rule w) v w _ is)
judged_value accepts rule (Err cause) v is = absurd cc

answered : (means : Means) (accepts : Accepts) (guards : List Guard) (ran : RanSeen) (g : ℕ) (mode : ErrorMode) (before : Edn) (judgement : Result Edn AgentError) (answer : Finished)
    → g ≡ ran.job.agent
    → means ran.job.action.code ran.job.action.args before ≡ ran.outcome
    → judged accepts (rule_at guards ran.job.agent) ran.outcome ≡ judgement
    → IsAnswer mode ran.job.agent (keys_at guards ran.job.agent) before judgement answer
    → (notices_in answer ≡ []) ⊎ AreOfAction means g (notices_in answer)
answered means accepts guards ran g mode before (Ok v) (Changed notices) same gave judgement is = inr (record {
  action = ran.job.action;
  before = before;
  after = v;
  gave = gave ∙ judged_value accepts _ ran.outcome v judgement;
  are = record { keys = keys_at guards ran.job.agent; are = rw same is };
})
answered means accepts guards ran g Fail before (Err e) (Changed notices) same gave judgement is = absurd is
answered means accepts guards ran g Continue before (Err e) (Changed notices) same gave judgement is = absurd is
answered means accepts guards ran g mode before judgement (Failed e) same gave judgement_is is = inl refl
answered means accepts guards ran g mode before judgement (Continued e) same gave judgement_is is = inl refl

of_found : (means : Means) (accepts : Accepts) (guards : List Guard) (ran : RanSeen) (g : ℕ) (answer : Finished) (found : Option Agent)
    → g ≡ ran.job.agent
    → means ran.job.action.code ran.job.action.args ran.job.state ≡ ran.outcome
    → out_if_here ran.job.agent found ≡ Some ran.job
    → IsAnswerIfHere accepts guards ran answer found
    → (notices_in answer ≡ []) ⊎ AreOfAction means g (notices_in answer)
of_found means accepts guards ran g answer None same gave out is = absurd is
of_found means accepts guards ran g answer (Some agent) same gave out is =
    answered means accepts guards ran g agent.mode agent.value _ answer same
    (ap (means ran.job.action.code ran.job.action.args) (out_state_by agent.is_out _ agent ran.job out) ∙ gave) refl is

pub of_action : (means : Means) (accepts : Accepts) (store : AgentsSeen) (ran : RanSeen) (g : ℕ) (answer : Finished)
    → g ≡ ran.job.agent
    → means ran.job.action.code ran.job.action.args ran.job.state ≡ ran.outcome
    → job_out store.agents ran.job.agent ≡ Some ran.job
    → IsAnswerOf accepts store ran answer
    → (notices_in answer ≡ []) ⊎ AreOfAction means g (notices_in answer)
of_action means accepts store ran g answer same gave out is =
    of_found means accepts store.guards ran g answer (slice_get store.agents ran.job.agent) same gave out is
