-- What a store of agents shows, and what is always so in it.
use Rattle.std.specs.Prelude.{◌≡◌, ◌≤◌, ◌&&◌, ◌∷◌, ℕ, nat_lt, [], Bool, true, false, not, if◌then◌else◌, List, length, map, Option, None, Some, Ok, is_some, slice_get, slice_set}
use Rattle.std.specs.BTreeMap.{is_at}
use Rattle.std.specs.Option.{option_map, option_or}
use Rattle.std.specs.BTreeSet.{insert_key}
use Rattle.std.specs.Set.{remove_key}
use Rattle.std.specs.Ordering.{nat_cmp}
use Rattle.ref_value.specs.Edn.{Edn}
use Rattle.ref_fun.specs.Actions.{absent_agent}
use Rattle.ref_fun.specs.Meaning.{Means}
use Rattle.ref_fun.specs.Rule.{Accepts}
use Rattle.ref_fun.specs.declared.actions.Action.{Action}
use Rattle.ref_fun.specs.declared.carries.Carry.{Carry}
use Rattle.ref_log.specs.Guards.{AreAccepted}
use Rattle.ref_log.specs.declared.guards.Guard.{Guard}
use Rattle.ref_log.specs.declared.sends.Sent.{Sent}
use Rattle.ref_agents.specs.Account.{AccountSeen, fit_marks, fold_of, folded, has_released, last_carries, most_folded, number_of, restarted, with_ended, with_queued, with_released, without_last}
use Rattle.ref_agents.specs.Jobs.{JobSeen}
use Rattle.ref_agents.specs.declared.accounts.Mark.{Mark}
use Rattle.ref_agents.specs.declared.accounts.Queued.{Queued}
use Rattle.ref_agents.specs.declared.accounts.SentBy.{SentBy}
use Rattle.ref_agents.specs.declared.accounts.SentBy.TheVariants.{Carried, Commit, Outside}
use Rattle.ref_agents.specs.declared.agents.Agent.{Agent}
use Rattle.ref_agents.specs.declared.agents.ErrorMode.{ErrorMode}
use Rattle.ref_agents.specs.declared.faults.AgentError.{AgentError}
use Rattle.ref_agents.specs.declared.faults.SendFault.{SendFault}
use Rattle.ref_agents.specs.declared.faults.SendFault.TheVariants as sends
use Rattle.ref_log.specs.Limits.{most_references}

-- the agents by number, the rule and the watches of each, and the points of the commits whose sends may not be taken yet
pub record AgentsSeen : Type 0 where
  pub agents : List Agent
  pub guards : List Guard
  pub unreleased : List ℕ

-- ---- what is always so

-- Of an agent: its state is its start folded over its done actions; it is failed exactly where a handled action is marked
-- failed, and that one is the last; and while it is failed, or what its last action carried isn't released, no action of it is on
-- its way.
pub record IsAgent (means : Means) (agent : Agent) : Type 0 where
  pub folded : fold_of means agent.account ≡ Ok agent.value
  pub marked : fit_marks (is_some agent.error) agent.account.handled ≡ true
  pub single : (agent.is_out && is_some agent.error) ≡ false
  pub idle : (agent.is_out && agent.is_carrying) ≡ false

abbrev pub IsAgentIfHere : Means → Option Agent → Type 0
IsAgentIfHere means None = Unit {0}
IsAgentIfHere means (Some agent) = IsAgent means agent

abbrev pub AreAgents : Means → List Agent → Type 0
AreAgents means agents = (g : ℕ) → IsAgentIfHere means (slice_get agents g)

abbrev pub values_of : List Agent → List Edn
values_of agents = map (λ agent. agent.value) agents

-- Of all agents: there are 2^20 at most, and each has a rule or none, which accepts its state, and its watches.
abbrev pub IsStore : Means → Accepts → List Agent → List Guard → Type 0
IsStore means accepts agents guards =
    (length agents ≤ most_references)
    × (length guards ≡ length agents)
    × AreAccepted accepts guards (values_of agents)
    × AreAgents means agents

-- ---- what there is of an agent, if it is here

abbrev pub value_at : List Agent → ℕ → Option Edn
value_at agents g = slice_get (values_of agents) g

abbrev pub error_if_here : Option Agent → Option AgentError
error_if_here None = None
error_if_here (Some agent) = agent.error

abbrev pub error_at : List Agent → ℕ → Option AgentError
error_at agents g = error_if_here (slice_get agents g)

abbrev pub account_if_here : Option Agent → Option AccountSeen
account_if_here None = None
account_if_here (Some agent) = Some agent.account

abbrev pub account_at : List Agent → ℕ → Option AccountSeen
account_at agents g = account_if_here (slice_get agents g)

-- ---- jobs

-- Whether an action of an agent may be taken: it isn't failed, none of its actions is on its way, what its last action carried is
-- released, and so is its first action that waits.
abbrev pub is_ready : List ℕ → Agent → Bool
is_ready unreleased agent = not (is_some agent.error) && not agent.is_out && not agent.is_carrying && has_released unreleased agent.account.queue

abbrev pub is_ready_if_here : List ℕ → Option Agent → Bool
is_ready_if_here unreleased None = false
is_ready_if_here unreleased (Some agent) = is_ready unreleased agent

abbrev pub is_ready_at : AgentsSeen → ℕ → Bool
is_ready_at store g = is_ready_if_here store.unreleased (slice_get store.agents g)

abbrev pub head_job : ℕ → Agent → List Queued → Option JobSeen
head_job g agent [] = None
head_job g agent (q ∷ qs) = Some (record { agent = g; number = number_of agent.account; action = q.action; state = agent.value })

-- The job that an agent's first action makes: with its number, that of the actions that ended before it, and the state now.
abbrev pub next_job : ℕ → Option Agent → Option JobSeen
next_job g None = None
next_job g (Some agent) = head_job g agent agent.account.queue

abbrev pub out_if_here : ℕ → Option Agent → Option JobSeen
out_if_here g None = None
out_if_here g (Some agent) = if agent.is_out then head_job g agent agent.account.queue else None

-- the job of an agent that is on its way
abbrev pub job_out : List Agent → ℕ → Option JobSeen
job_out agents g = out_if_here g (slice_get agents g)

-- ---- an agent that is changed, if it is here

abbrev pub put_agent : List Agent → ℕ → (Agent → Agent) → Option Agent → List Agent
put_agent agents g change None = agents
put_agent agents g change (Some agent) = slice_set agents g (change agent)

abbrev pub change_agent : List Agent → ℕ → (Agent → Agent) → List Agent
change_agent agents g change = put_agent agents g change (slice_get agents g)

abbrev pub with_agents : AgentsSeen → List Agent → AgentsSeen
with_agents store agents = record store { agents = agents }

-- with other rules or watches
abbrev pub with_guards : AgentsSeen → List Guard → AgentsSeen
with_guards store guards = record store { guards = guards }

-- with another error mode, which takes no failure away
abbrev pub moded : ErrorMode → Agent → Agent
moded mode agent = record agent { mode = mode }

abbrev pub with_mode : AgentsSeen → ℕ → ErrorMode → AgentsSeen
with_mode store g mode = with_agents store (change_agent store.agents g (moded mode))

-- with one more action that waits
abbrev pub queuing : Queued → Agent → Agent
queuing queued agent = record agent { account = with_queued agent.account queued }

abbrev pub with_send : List Agent → ℕ → Queued → List Agent
with_send agents g queued = change_agent agents g (queuing queued)

-- what a send outside of a transaction adds
abbrev pub outside : Action → Queued
outside action = record { action = action; by = Outside }

-- With one more action for each of these, in order: `to` says for which agent, and `of` which action.
abbrev pub with_each : {X : Type 0} → (X → ℕ) → (X → Action) → SentBy → List X → List Agent → List Agent
with_each to of by [] agents = agents
with_each to of by (x ∷ xs) agents = with_each to of by xs (with_send agents (to x) (record { action = of x; by = by }))

-- with the sends of the commit at a point, in order
abbrev pub with_sends : ℕ → List Sent → List Agent → List Agent
with_sends point ss agents = with_each (λ s. s.agent) (λ s. s.action) (Commit point) ss agents

-- what a send that is carried adds: it carries nothing
abbrev pub carried : Carry → Action
carried c = record { code = c.code; args = c.args; carries = [] }

-- with what an action of g carries, in order
abbrev pub with_carries : ℕ → List Carry → List Agent → List Agent
with_carries g cs agents = with_each (λ c. c.g) carried (Carried g) cs agents

-- without the last action that waits for an agent
abbrev pub unqueuing : Agent → Agent
unqueuing agent = record agent { account = without_last agent.account }

abbrev pub without_send : List Agent → ℕ → List Agent
without_send agents g = change_agent agents g unqueuing

-- without what these added, the last first
abbrev pub without_each : {X : Type 0} → (X → ℕ) → List X → List Agent → List Agent
without_each to [] agents = agents
without_each to (x ∷ xs) agents = without_send (without_each to xs agents) (to x)

-- The points of the commits whose sends may not be taken yet, with one more where it has sends.
abbrev pub with_unreleased : ℕ → List Sent → List ℕ → List ℕ
with_unreleased point [] points = points
with_unreleased point (s ∷ ss) points = insert_key nat_cmp points point

-- a store with the sends of the commit at a point
abbrev pub with_commit : AgentsSeen → ℕ → List Sent → AgentsSeen
with_commit store point sends =
    record store { agents = with_sends point sends store.agents; unreleased = with_unreleased point sends store.unreleased }

-- after the release of a commit
abbrev pub with_release : AgentsSeen → ℕ → AgentsSeen
with_release store point = record store { unreleased = remove_key (is_at (nat_cmp point)) store.unreleased }

-- Whether an agent's last action carried something that isn't released yet.
abbrev pub is_carrying_if_here : Option Agent → Bool
is_carrying_if_here None = false
is_carrying_if_here (Some agent) = agent.is_carrying

abbrev pub is_carrying_at : List Agent → ℕ → Bool
is_carrying_at agents g = is_carrying_if_here (slice_get agents g)

-- what an action of g carried to an agent is released
abbrev pub releasing : ℕ → Agent → Agent
releasing g agent = record agent { account = with_released g agent.account }

-- and to these agents
abbrev pub with_each_released : ℕ → List Carry → List Agent → List Agent
with_each_released g [] agents = agents
with_each_released g (c ∷ cs) agents = with_each_released g cs (change_agent agents c.g (releasing g))

abbrev pub carrying : Bool → Agent → Agent
carrying is_carrying agent = record agent { is_carrying = is_carrying }

-- what the last handled action of an agent carried
abbrev pub carries_if_here : Option Agent → List Carry
carries_if_here None = []
carries_if_here (Some agent) = last_carries agent.account.handled

abbrev pub carries_at : List Agent → ℕ → List Carry
carries_at agents g = carries_if_here (slice_get agents g)

-- after the release of what the last action of an agent carried, which may be taken then as if it was sent from outside
abbrev pub with_carried_released : AgentsSeen → ℕ → AgentsSeen
with_carried_released store g =
    if is_carrying_at store.agents g
    then with_agents store (change_agent (with_each_released g (carries_at store.agents g) store.agents) g (carrying false))
    else store

-- with its first action on its way, or not any more
abbrev pub outed : Bool → Agent → Agent
outed is_out agent = record agent { is_out = is_out }

abbrev pub with_out : AgentsSeen → ℕ → Bool → AgentsSeen
with_out store g is_out = with_agents store (change_agent store.agents g (outed is_out))

-- after its first action ended: with its mark, the state and the error after it
abbrev pub ended : Mark → Edn → Option AgentError → Agent → Agent
ended mark value error agent = record agent { value = value; error = error; account = with_ended agent.account mark; is_out = false }

-- after a restart
abbrev pub revived : Edn → Bool → Agent → Agent
revived state clear agent = record agent { value = state; error = None; account = restarted agent.account state clear }

abbrev pub with_restart : AgentsSeen → ℕ → Edn → Bool → AgentsSeen
with_restart store g state clear = with_agents store (change_agent store.agents g (revived state clear))

-- Whether an agent's account can be folded: what its last action carried is released, since a release looks at that action, and
-- fewer actions ended than can be counted.
abbrev pub can_fold : Agent → Bool
can_fold agent = not agent.is_carrying && nat_lt (number_of agent.account) most_folded

abbrev pub can_fold_if_here : Option Agent → Bool
can_fold_if_here None = false
can_fold_if_here (Some agent) = can_fold agent

abbrev pub can_fold_at : List Agent → ℕ → Bool
can_fold_at agents g = can_fold_if_here (slice_get agents g)

-- with its account folded, if it can be
abbrev pub folding : Agent → Agent
folding agent = if can_fold agent then record agent { account = folded agent.account agent.value } else agent

abbrev pub with_fold : AgentsSeen → ℕ → AgentsSeen
with_fold store g = with_agents store (change_agent store.agents g folding)

-- ---- when an action can be sent

abbrev pub send_refusal_if_here : Option Agent → Option SendFault
send_refusal_if_here None = Some sends.NoSuchAgent
send_refusal_if_here (Some agent) = if is_some agent.error then Some sends.Failed else None

-- The first fault of sending an action to an agent: all agents that get something are here, and that one isn't failed.
abbrev pub send_refusal : List Agent → ℕ → Action → Option SendFault
send_refusal agents g action =
    option_or (option_map (λ h. sends.NoSuchAgent) (absent_agent (length agents) g action)) (send_refusal_if_here (slice_get agents g))
