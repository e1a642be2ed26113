-- How a job ends, and how a failed agent is restarted.
--
-- Clojure's page on agents: the value of the action becomes the agent's state, where the validator accepts it. Else, in the
-- mode `:fail`, the agent is failed and its state stays until `restart-agent`; in the mode `:continue` it is as if neither
-- action nor error had been.
use Rattle.std.specs.Prelude.{◌≡◌, ℕ, Bool, true, false, not, if◌then◌else◌, is_some, List, [], ◌∷◌, Option, None, Some, Result, Ok, Err, slice_get, slice_set}
use Rattle.std.specs.Option.{option_map, option_or}
use Rattle.ref_value.specs.Edn.{Edn}
use Rattle.ref_fun.specs.Rule.{Accepts, passes, unknown}
use Rattle.ref_fun.specs.declared.carries.Carry.{Carry}
use Rattle.ref_fun.specs.declared.faults.Cause.{Cause}
use Rattle.ref_fun.specs.declared.rules.Rule.{Rule}
use Rattle.ref_log.specs.Guards.{AreAccepted, keys_at, rule_at}
use Rattle.ref_log.specs.Watches.{notices_of}
use Rattle.ref_log.specs.declared.guards.Guard.{Guard}
use Rattle.ref_log.specs.declared.notices.Who.TheVariants as who
use Rattle.ref_agents.specs.Agents.{AgentsSeen, carrying, change_agent, ended, with_agents, with_carries}
use Rattle.ref_agents.specs.Jobs.{JobSeen, RanSeen}
use Rattle.ref_agents.specs.declared.accounts.Mark.TheVariants as marks
use Rattle.ref_agents.specs.declared.agents.Agent.{Agent}
use Rattle.ref_agents.specs.declared.agents.ErrorMode.{ErrorMode}
use Rattle.ref_agents.specs.declared.agents.ErrorMode.TheVariants.{Fail, Continue}
use Rattle.ref_agents.specs.declared.ends.Finished.{Finished}
use Rattle.ref_agents.specs.declared.ends.Finished.TheVariants.{Changed, Failed, Continued}
use Rattle.ref_agents.specs.declared.faults.AgentError.{AgentError}
use Rattle.ref_agents.specs.declared.faults.AgentError.TheVariants.{Refused, Invalid}
use Rattle.ref_agents.specs.declared.faults.FinishFault.{FinishFault}
use Rattle.ref_agents.specs.declared.faults.FinishFault.TheVariants as finishes
use Rattle.ref_agents.specs.declared.faults.RestartFault.{RestartFault}
use Rattle.ref_agents.specs.declared.faults.RestartFault.TheVariants as restarts

-- the state that a run gives, where the rule accepts it, or the error
abbrev pub judged : Accepts → Option Rule → Result Edn Cause → Result Edn AgentError
judged accepts rule (Ok v) = if passes accepts rule v then Ok v else Err Invalid
judged accepts rule (Err cause) = Err (Refused cause)

-- That an agent may have the state that is judged: all rules accept then, if they did before.
abbrev pub CanHave : Accepts → List Guard → ℕ → Result Edn AgentError → Type 0
CanHave accepts guards g (Ok v) =
    (values : List Edn) → AreAccepted accepts guards values → AreAccepted accepts guards (slice_set values g v)
CanHave accepts guards g (Err error) = Unit {0}

-- what goes out with it: all that the action carries where the state is a new one, and nothing else
abbrev pub goes_out : Result Edn AgentError → List Carry → List Carry
goes_out (Ok v) cs = cs
goes_out (Err error) cs = []

abbrev pub has_carry : List Carry → Bool
has_carry [] = false
has_carry (c ∷ cs) = true

-- The agent after that, by its mode, where its action carries these. They are held until they are released, and until then none
-- of its actions is taken.
abbrev pub after_end : ErrorMode → Result Edn AgentError → List Carry → Agent → Agent
after_end mode (Ok v) cs agent = carrying (has_carry cs) (ended marks.Done v None agent)
after_end Fail (Err error) cs agent = ended marks.Failed agent.value (Some error) agent
after_end Continue (Err error) cs agent = ended marks.Passed agent.value None agent

abbrev pub ending : Result Edn AgentError → List Carry → Agent → Agent
ending judgement cs agent = after_end agent.mode judgement cs agent

-- What the action carries stands at the ends of its queues, in order, if the state is a new one; and the action ended.
abbrev pub with_end : AgentsSeen → ℕ → Result Edn AgentError → List Carry → AgentsSeen
with_end store g judgement cs =
    with_agents store (change_agent (with_carries g (goes_out judgement cs) store.agents) g (ending judgement cs))

abbrev pub with_finish : Accepts → AgentsSeen → RanSeen → AgentsSeen
with_finish accepts store ran =
    let g = ran.job.agent in
    with_end store g (judged accepts (rule_at store.guards g) ran.outcome) ran.job.action.carries

-- What is answered: the notices of the agent's watches, whose keys these are, or the error. The agent had the mode, and the
-- state before.
abbrev pub IsAnswer : ErrorMode → ℕ → List Edn → Edn → Result Edn AgentError → Finished → Type 0
IsAnswer mode g keys before (Ok v) (Changed notices) = notices.items ≡ notices_of (who.Agent g) keys before v
IsAnswer Fail g keys before (Err error) (Failed told) = told ≡ error
IsAnswer Continue g keys before (Err error) (Continued told) = told ≡ error
IsAnswer mode g keys before judgement answer = ⊥

abbrev pub IsAnswerIfHere : Accepts → List Guard → RanSeen → Finished → Option Agent → Type 0
IsAnswerIfHere accepts guards ran answer None = ⊥
IsAnswerIfHere accepts guards ran answer (Some agent) =
    let g = ran.job.agent in
    IsAnswer agent.mode g (keys_at guards g) agent.value (judged accepts (rule_at guards g) ran.outcome) answer

abbrev pub IsAnswerOf : Accepts → AgentsSeen → RanSeen → Finished → Type 0
IsAnswerOf accepts store ran answer = IsAnswerIfHere accepts store.guards ran answer (slice_get store.agents ran.job.agent)

-- the fault of ending a job whose agent's rule the table lacks
abbrev pub lacking : (ℕ → Bool) → AgentsSeen → JobSeen → Option FinishFault
lacking knows store job = option_map finishes.NoSuchFun (unknown knows (rule_at store.guards job.agent))

-- ---- restart

abbrev pub restart_refusal_if_here : Accepts → (ℕ → Bool) → Option Rule → Edn → Option Agent → Option RestartFault
restart_refusal_if_here accepts knows rule state None = Some restarts.NoSuchAgent
restart_refusal_if_here accepts knows rule state (Some agent) =
    option_or (option_map restarts.NoSuchFun (unknown knows rule))
    (if not (is_some agent.error) then Some restarts.NotFailed else
    if not (passes accepts rule state) then Some restarts.Invalid else
    None)

-- the first fault of restarting an agent with this state
abbrev pub restart_refusal : Accepts → (ℕ → Bool) → AgentsSeen → ℕ → Edn → Option RestartFault
restart_refusal accepts knows store g state =
    restart_refusal_if_here accepts knows (rule_at store.guards g) state (slice_get store.agents g)
