-- What definitions say of agents, their jobs and what is sent to them, in plain words.
use Rattle.std.specs.Prelude.{◌≡◌, ◌≢◌, ◌↔◌, ◌⊎◌, ◌==◌, ◌+◌, ◌^◌, ◌<◌, ◌≤◌, ℕ, Bool, true, false, List, [], ◌∷◌, ◌++◌, length, map, slice_get, Option, None, Some, Result, Ok, Err}
use Rattle.std.specs.List.{AllByRecursion, filter}
use Rattle.ref_value.specs.Edn.{Edn}
use Rattle.ref_fun.specs.Rule.{Accepts}
use Rattle.ref_fun.specs.declared.actions.Action.{Action}
use Rattle.ref_fun.specs.declared.carries.Carry.{Carry}
use Rattle.ref_fun.specs.declared.faults.Cause.{Cause}
use Rattle.ref_fun.specs.declared.rules.Rule.{Rule}
use Rattle.ref_log.specs.declared.guards.Guard.{Guard}
use Rattle.ref_log.specs.declared.sends.Sent.{Sent}
use Rattle.ref_agents.specs.Account.{number_of}
use Rattle.ref_agents.specs.Agents.{AgentsSeen, can_fold_at, is_ready_at, job_out, next_job, send_refusal, with_carried_released, with_commit, with_fold, with_release, with_restart}
use Rattle.ref_agents.specs.Ends.{IsAnswerOf, restart_refusal, with_finish}
use Rattle.ref_agents.specs.Jobs.{JobSeen, RanSeen}
use Rattle.ref_agents.specs.declared.accounts.Handled.{Handled}
use Rattle.ref_agents.specs.declared.accounts.Mark.TheVariants as marks
use Rattle.ref_agents.specs.declared.accounts.Mark.{Mark}
use Rattle.ref_agents.specs.declared.accounts.Queued.{Queued}
use Rattle.ref_agents.specs.declared.accounts.SentBy.TheVariants.{Outside, Commit, Carried}
use Rattle.ref_agents.specs.declared.accounts.SentBy.{SentBy}
use Rattle.ref_agents.specs.declared.agents.Agent.{Agent}
use Rattle.ref_agents.specs.declared.agents.ErrorMode.TheVariants as modes
use Rattle.ref_agents.specs.declared.ends.Finished.TheVariants.{Changed, Failed, Continued}
use Rattle.ref_agents.specs.declared.ends.Finished.{Finished}
use Rattle.ref_agents.specs.declared.faults.AgentError.TheVariants.{Refused, Invalid}
use Rattle.ref_agents.specs.declared.faults.AgentError.{AgentError}
use Rattle.ref_log.specs.declared.notices.Notice.{Notice}
use Rattle.ref_log.specs.declared.notices.Who.TheVariants as who
use Rattle.ref_agents.specs.declared.faults.RestartFault.{RestartFault}
use Rattle.ref_agents.specs.declared.faults.RestartFault.TheVariants as restarts
use Rattle.ref_agents.specs.declared.faults.SendFault.{SendFault}
use Rattle.ref_agents.specs.declared.faults.SendFault.TheVariants as send_faults
use Rattle.ref_play.specs.Given.{goes_out, queue_at}
use Rattle.ref_play.specs.Plain.{AnyByRecursion, AreRising, HasRule, KnowsRuleOf, RuleAccepts, RuledBy, agents_of}
use Rattle.ref_play.specs.Runs.{held_by, may_hold}

-- ---- jobs

-- An action was sent outside of a transaction, or by a commit that isn't one of these. What was carried is held as long as it says so.
abbrev pub IsReleased : List ℕ → SentBy → Type 0
IsReleased unreleased Outside = Unit {0}
IsReleased unreleased (Commit point) = AllByRecursion (λ p. p ≢ point) unreleased
IsReleased unreleased (Carried g) = ⊥

-- An agent is here, without an error, with no action on its way and nothing that it carried unreleased, and the first action of its
-- queue is released.
pub record IsReady (store : AgentsSeen) (g : ℕ) : Type 0 where
  pub agent : Agent
  pub here : slice_get store.agents g ≡ Some agent
  pub sound : agent.error ≡ None
  pub idle : agent.is_out ≡ false
  pub quiet : agent.is_carrying ≡ false
  pub first : Queued
  pub rest : List Queued
  pub queue : agent.account.queue ≡ first ∷ rest
  pub released : IsReleased store.unreleased first.by

abbrev pub ReadyMeans : Type 0
ReadyMeans = (store : AgentsSeen) (g : ℕ) → is_ready_at store g ≡ true ↔ IsReady store g

-- The next job of an agent that is here: the first action of its queue, with the number of actions that ended before it, on its value.
pub record IsNext (agents : List Agent) (g : ℕ) (job : JobSeen) : Type 0 where
  pub agent : Agent
  pub here : slice_get agents g ≡ Some agent
  pub first : Queued
  pub rest : List Queued
  pub queue : agent.account.queue ≡ first ∷ rest
  pub is : job ≡ record { agent = g; number = number_of agent.account; action = first.action; state = agent.value }

abbrev pub NextJobMeans : Type 0
NextJobMeans = (agents : List Agent) (g : ℕ) (job : JobSeen) → next_job g (slice_get agents g) ≡ Some job ↔ IsNext agents g job

-- The job on its way, of an agent that has one, is its next one.
pub record IsOut (agents : List Agent) (g : ℕ) (job : JobSeen) : Type 0 where
  pub next : IsNext agents g job
  pub out : next.agent.is_out ≡ true

abbrev pub JobOutMeans : Type 0
JobOutMeans = (agents : List Agent) (g : ℕ) (job : JobSeen) → job_out agents g ≡ Some job ↔ IsOut agents g job

-- ---- one agent changes

-- An agent is this one now. All others are as they were, and so are all rules, watches and commits to be released.
pub record OnlyAgent (g : ℕ) (after : Agent) (old new : AgentsSeen) : Type 0 where
  pub here : slice_get new.agents g ≡ Some after
  pub others : (h : ℕ) → h ≢ g → slice_get new.agents h ≡ slice_get old.agents h
  pub guards : new.guards ≡ old.guards
  pub unreleased : new.unreleased ≡ old.unreleased

-- An agent that was restarted has the state given, from which it starts, no error and nothing handled. Its queue stays, or is empty
-- after a clear.
pub record IsRestarted (before after : Agent) (state : Edn) (clear : Bool) : Type 0 where
  pub value : after.value ≡ state
  pub error : after.error ≡ None
  pub start : after.account.start ≡ state
  pub past : after.account.past ≡ 0
  pub handled : after.account.handled ≡ []
  pub kept : clear ≡ false → after.account.queue ≡ before.account.queue
  pub cleared : clear ≡ true → after.account.queue ≡ []
  pub mode : after.mode ≡ before.mode
  pub out : after.is_out ≡ before.is_out
  pub carrying : after.is_carrying ≡ before.is_carrying

abbrev pub RestartMeans : Type 0
RestartMeans = (store : AgentsSeen) (g : ℕ) (state : Edn) (clear : Bool) (before : Agent) → slice_get store.agents g ≡ Some before
    → (after : Agent) × OnlyAgent g after store (with_restart store g state clear) × IsRestarted before after state clear

-- ---- a fold

-- The account of an agent can be folded: what its last action carried is released, and fewer than 2^62 actions ended since its last
-- restart.
pub record CanFold (agents : List Agent) (g : ℕ) : Type 0 where
  pub agent : Agent
  pub here : slice_get agents g ≡ Some agent
  pub released : agent.is_carrying ≡ false
  pub few : agent.account.past + length agent.account.handled < 2 ^ 62

-- None of these actions failed its agent.
abbrev pub NoneFailed : List Handled → Type 0
NoneFailed handled = AllByRecursion (λ h. h.mark ≢ marks.Failed) handled

-- An agent whose account was folded starts from its state. Of the actions that it handled the one that failed it stays, the last, and
-- none where none did. All else stays too, and so does the number of the actions that ended.
pub record IsFolded (before after : Agent) : Type 0 where
  pub start : after.account.start ≡ before.value
  pub none : NoneFailed before.account.handled → after.account.handled ≡ []
  pub last : (others : List Handled) (one : Handled) → before.account.handled ≡ others ++ one ∷ [] → NoneFailed others → one.mark ≡ marks.Failed
      → after.account.handled ≡ one ∷ []
  pub count : after.account.past + length after.account.handled ≡ before.account.past + length before.account.handled
  pub queue : after.account.queue ≡ before.account.queue
  pub value : after.value ≡ before.value
  pub error : after.error ≡ before.error
  pub mode : after.mode ≡ before.mode
  pub out : after.is_out ≡ before.is_out
  pub carrying : after.is_carrying ≡ before.is_carrying

pub record FoldsMean : Type 0 where
  pub when : (agents : List Agent) (g : ℕ) → can_fold_at agents g ≡ true ↔ CanFold agents g
  pub folds : (store : AgentsSeen) (g : ℕ) (before : Agent) → slice_get store.agents g ≡ Some before → can_fold_at store.agents g ≡ true
      → (after : Agent) × OnlyAgent g after store (with_fold store g) × IsFolded before after
  pub stays : (store : AgentsSeen) (g : ℕ) → can_fold_at store.agents g ≡ false → with_fold store g ≡ store

-- ---- the end of a job

-- An agent with more in its queue.
abbrev pub queued : Agent → List Queued → Agent
queued agent more = record agent { account = record agent.account { queue = agent.account.queue ++ more } }

-- What an action of g carries to an agent, in order: it carries nothing itself, and is held in the name of g.
abbrev pub carried_to : ℕ → List Carry → ℕ → List Queued
carried_to g carries h =
    map (λ c. record { action = record { code = c.code; args = c.args; carries = [] }; by = Carried g }) (filter (λ c. c.g == h) carries)

-- An agent is this one now. All others have at the ends of their queues what is carried to them, and else are as they were, and so are
-- all rules, watches and commits to be released.
pub record HasFinished (g : ℕ) (after : Agent) (carries : List Carry) (old new : AgentsSeen) : Type 0 where
  pub here : slice_get new.agents g ≡ Some after
  pub others : (h : ℕ) (agent : Agent) → h ≢ g → slice_get old.agents h ≡ Some agent → slice_get new.agents h ≡ Some (queued agent (carried_to g carries h))
  pub none : (h : ℕ) → slice_get old.agents h ≡ None → slice_get new.agents h ≡ None
  pub guards : new.guards ≡ old.guards
  pub unreleased : new.unreleased ≡ old.unreleased

-- An agent whose first action ended has this value and this error. The action, with its mark, is the last of the handled ones; the
-- others wait, and then what it carried to itself; and none is on its way.
pub record HasEnded (before after : Agent) (mark : Mark) (value : Edn) (error : Option AgentError) (more : List Queued) : Type 0 where
  pub value_is : after.value ≡ value
  pub error_is : after.error ≡ error
  pub idle : after.is_out ≡ false
  pub mode : after.mode ≡ before.mode
  pub start : after.account.start ≡ before.account.start
  pub past : after.account.past ≡ before.account.past
  pub first : Queued
  pub rest : List Queued
  pub waited : before.account.queue ≡ first ∷ rest
  pub wait : after.account.queue ≡ rest ++ more
  pub handled : after.account.handled ≡ before.account.handled ++ record { action = first.action; mark = mark } ∷ []

-- Why an action failed: its function refused for that cause, or the rule of the agent doesn't accept the value.
abbrev pub FailedFor : Accepts → List Guard → ℕ → Result Edn Cause → AgentError → Type 0
FailedFor accepts guards g (Ok v) error = (error ≡ Invalid) × ((rule : Rule) × HasRule guards g rule × (accepts rule.code rule.args v ≡ false))
FailedFor accepts guards g (Err cause) error = error ≡ Refused cause

-- A notice for each watch of an agent, in the order of adding.
abbrev pub notices : ℕ → List Edn → Edn → Edn → List Notice
notices g keys before after = map (λ key. record { who = who.Agent g; key = key; before = before; after = after }) keys

-- What an answer to the end of a job says: the value is the agent's now, the action is done, and what it carried is to be released, if
-- there is any; or the action failed, in the mode `:fail`, and the agent with it; or the action failed, in the mode `:continue`, and is
-- passed over.
abbrev pub EndsAs : Accepts → List Guard → Guard → RanSeen → Agent → Agent → Finished → Type 0
EndsAs accepts guards guard ran before after (Changed told) =
    (v : Edn) × (ran.outcome ≡ Ok v) × RuleAccepts accepts guards ran.job.agent v × (told.items ≡ notices ran.job.agent guard.watches before.value v) × HasEnded before after marks.Done v None (carried_to ran.job.agent ran.job.action.carries ran.job.agent)
    × (after.is_carrying ≡ true ↔ ran.job.action.carries ≢ [])
EndsAs accepts guards guard ran before after (Failed error) =
    (before.mode ≡ modes.Fail) × FailedFor accepts guards ran.job.agent ran.outcome error × HasEnded before after marks.Failed before.value (Some error) []
    × (after.is_carrying ≡ before.is_carrying)
EndsAs accepts guards guard ran before after (Continued error) =
    (before.mode ≡ modes.Continue) × FailedFor accepts guards ran.job.agent ran.outcome error × HasEnded before after marks.Passed before.value None []
    × (after.is_carrying ≡ before.is_carrying)

-- The end of a job of an agent, which has an action in its queue, is answered so exactly where what is left is as the answer says: what
-- the action carries goes out where the value is the agent's now, and else nothing does.
abbrev pub FinishMeans : Accepts → Type 0
FinishMeans accepts =
    (store : AgentsSeen) (ran : RanSeen) (before : Agent) (guard : Guard) (answer : Finished)
    → slice_get store.agents ran.job.agent ≡ Some before → slice_get store.guards ran.job.agent ≡ Some guard → before.account.queue ≢ []
    → IsAnswerOf accepts store ran answer
    ↔ ((after : Agent) × HasFinished ran.job.agent after (goes_out answer ran.job.action.carries) store (with_finish accepts store ran) × EndsAs accepts store.guards guard ran before after answer)

-- ---- when a failed agent can be restarted

-- The agent is here and failed, and its rule accepts the state; or what stands against it, where nothing does that is asked before.
abbrev pub RestartsSo : Accepts → (ℕ → Bool) → AgentsSeen → ℕ → Edn → Option RestartFault → Type 0
RestartsSo accepts knows store g state None =
    (agent : Agent) × (slice_get store.agents g ≡ Some agent) × KnowsRuleOf knows store.guards g × (agent.error ≢ None) × RuleAccepts accepts store.guards g state
RestartsSo accepts knows store g state (Some restarts.NoSuchAgent) = slice_get store.agents g ≡ None
RestartsSo accepts knows store g state (Some (restarts.NoSuchFun code)) = (slice_get store.agents g ≢ None) × RuledBy store.guards code g × (knows code ≡ false)
RestartsSo accepts knows store g state (Some restarts.NotFailed) =
    (agent : Agent) × (slice_get store.agents g ≡ Some agent) × KnowsRuleOf knows store.guards g × (agent.error ≡ None)
RestartsSo accepts knows store g state (Some restarts.Invalid) =
    (agent : Agent) × (slice_get store.agents g ≡ Some agent) × KnowsRuleOf knows store.guards g × (agent.error ≢ None)
    × ((rule : Rule) × HasRule store.guards g rule × (accepts rule.code rule.args state ≡ false))
RestartsSo accepts knows store g state (Some restarts.Memory) = ⊥

abbrev pub RestartRefusals : Accepts → Type 0
RestartRefusals accepts =
    (knows : ℕ → Bool) (store : AgentsSeen) (g : ℕ) (state : Edn) (refusal : Option RestartFault)
    → restart_refusal accepts knows store g state ≡ refusal ↔ RestartsSo accepts knows store g state refusal

-- ---- when an action can be sent

-- The agent is here, and so are those that the action carries sends to; and the agent isn't failed.
abbrev pub HasReceivers : List Agent → ℕ → Action → Type 0
HasReceivers agents g action = AllByRecursion (λ h. h < length agents) (agents_of g action)

abbrev pub SendsSo : List Agent → ℕ → Action → Option SendFault → Type 0
SendsSo agents g action None = HasReceivers agents g action × ((agent : Agent) × (slice_get agents g ≡ Some agent) × (agent.error ≡ None))
SendsSo agents g action (Some send_faults.NoSuchAgent) = AnyByRecursion (λ h. length agents ≤ h) (agents_of g action)
SendsSo agents g action (Some send_faults.Failed) = HasReceivers agents g action × ((agent : Agent) × (slice_get agents g ≡ Some agent) × (agent.error ≢ None))
SendsSo agents g action (Some send_faults.Memory) = ⊥

abbrev pub SendRefusals : Type 0
SendRefusals = (agents : List Agent) (g : ℕ) (action : Action) (refusal : Option SendFault) → send_refusal agents g action ≡ refusal ↔ SendsSo agents g action refusal

-- ---- what a commit sends

-- A point is one of the commits whose sends may not be taken yet.
abbrev pub IsHeld : AgentsSeen → ℕ → Type 0
IsHeld store point = AnyByRecursion (λ p. p ≡ point) store.unreleased

-- What a commit at a point sends to an agent, in order.
abbrev pub sent_by : ℕ → List Sent → ℕ → List Queued
sent_by point sends g = map (λ s. record { action = s.action; by = Commit point }) (filter (λ s. s.agent == g) sends)

-- The sends stand at the ends of their queues and are held, if there are any; nothing else changes.
pub record HasSent (old new : AgentsSeen) (point : ℕ) (sends : List Sent) : Type 0 where
  pub here : (g : ℕ) (agent : Agent) → slice_get old.agents g ≡ Some agent → slice_get new.agents g ≡ Some (queued agent (sent_by point sends g))
  pub none : (g : ℕ) → slice_get old.agents g ≡ None → slice_get new.agents g ≡ None
  pub held : (p : ℕ) → IsHeld new p ↔ (IsHeld old p ⊎ ((p ≡ point) × (sends ≢ [])))
  pub guards : new.guards ≡ old.guards

abbrev pub SendsMean : Type 0
SendsMean = (store : AgentsSeen) (point : ℕ) (sends : List Sent) → HasSent store (with_commit store point sends) point sends

-- A release frees the sends of that commit alone, if no commit is held twice; agents stay as they are.
pub record HasReleased (old new : AgentsSeen) (point : ℕ) : Type 0 where
  pub held : (p : ℕ) → IsHeld new p ↔ (IsHeld old p × (p ≢ point))
  pub agents : new.agents ≡ old.agents
  pub guards : new.guards ≡ old.guards

abbrev pub ReleaseMeans : Type 0
ReleaseMeans = (store : AgentsSeen) (point : ℕ) → AreRising store.unreleased → HasReleased store (with_release store point) point

-- ---- what an action carried

-- What waited in the name of g may be taken now, as if it was sent from outside; whatever else waited waits as it did, in order.
abbrev pub AreFreed : ℕ → List Queued → List Queued → Type 0
AreFreed g [] [] = Unit {0}
AreFreed g (q ∷ qs) (r ∷ rs) = (r.action ≡ q.action) × (q.by ≡ Carried g → r.by ≡ Outside) × (q.by ≢ Carried g → r.by ≡ q.by) × AreFreed g qs rs
AreFreed g [] (r ∷ rs) = ⊥
AreFreed g (q ∷ qs) [] = ⊥

-- Where what g carried is released: whatever of it waits for an agent is free, and nothing else of the agent changes, but that g itself
-- waits for no release any more.
pub record IsFreed (g h : ℕ) (before after : Agent) : Type 0 where
  pub value : after.value ≡ before.value
  pub error : after.error ≡ before.error
  pub mode : after.mode ≡ before.mode
  pub out : after.is_out ≡ before.is_out
  pub start : after.account.start ≡ before.account.start
  pub past : after.account.past ≡ before.account.past
  pub handled : after.account.handled ≡ before.account.handled
  pub own : h ≡ g → after.is_carrying ≡ false
  pub carrying : h ≢ g → after.is_carrying ≡ before.is_carrying
  pub queue : AreFreed g before.account.queue after.account.queue

pub record HasFreed (old new : AgentsSeen) (g : ℕ) : Type 0 where
  pub here : (h : ℕ) (before : Agent) → slice_get old.agents h ≡ Some before → (after : Agent) × (slice_get new.agents h ≡ Some after) × IsFreed g h before after
  pub none : (h : ℕ) → slice_get old.agents h ≡ None → slice_get new.agents h ≡ None
  pub guards : new.guards ≡ old.guards
  pub unreleased : new.unreleased ≡ old.unreleased

-- No more waits in the name of g than its last action carried, as it is after each list of events.
abbrev pub HoldsNoMore : List Agent → ℕ → Type 0
HoldsNoMore agents g = (h : ℕ) → held_by g (queue_at agents h) ≤ may_hold agents g h

-- A release frees what the last handled action of an agent carried, if that isn't released, and else changes nothing.
pub record ReleasesCarried (store : AgentsSeen) (g : ℕ) (agent : Agent) : Type 0 where
  pub same : agent.is_carrying ≡ false → with_carried_released store g ≡ store
  pub frees : agent.is_carrying ≡ true → HasFreed store (with_carried_released store g) g

abbrev pub ReleaseCarriedMeans : Type 0
ReleaseCarriedMeans = (store : AgentsSeen) (g : ℕ) (agent : Agent) → slice_get store.agents g ≡ Some agent → HoldsNoMore store.agents g → ReleasesCarried store g agent
