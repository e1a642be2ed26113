-- The index by which agents that are ready are found: for a private type.
use Rattle.std.specs.Prelude.{◌≡◌, ◌≤◌, ◌<◌, ◌==◌, ℕ, Bool, true, false, List, length, Option, None, Some, Result, slice_get}
use Rattle.std.specs.Option.{option_map}
use Rattle.ref_value.specs.Edn.{Edn}
use Rattle.ref_agents.specs.Agents.{is_ready_if_here}
use Rattle.ref_agents.specs.Ends.{IsAnswer}
use Rattle.ref_agents.specs.Marks.{is_set}
use Rattle.ref_agents.specs.Places.{has_pair}
use Rattle.ref_agents.specs.declared.accounts.SentBy.{SentBy}
use Rattle.ref_agents.specs.declared.accounts.SentBy.TheVariants.{Outside, Commit, Carried}
use Rattle.ref_agents.specs.declared.agents.Agent.{Agent}
use Rattle.ref_agents.specs.declared.ends.Finished.{Finished}
use Rattle.ref_agents.specs.declared.faults.AgentError.{AgentError}

pub record IndexedSeen : Type 0 where
  pub items : List Agent
  -- the points of the commits whose sends may not be taken yet
  pub unreleased : List ℕ

abbrev pub with_items : IndexedSeen → List Agent → IndexedSeen
with_items seen items = record seen { items = items }

-- what sent the action that waits for an agent at an index
abbrev pub sent_by_at : Option Agent → ℕ → Option SentBy
sent_by_at None i = None
sent_by_at (Some agent) i = option_map (λ queued. queued.by) (slice_get agent.account.queue i)

-- whether that was the commit at a point
abbrev pub is_sent_at : ℕ → Option SentBy → Bool
is_sent_at point None = false
is_sent_at point (Some Outside) = false
is_sent_at point (Some (Commit at)) = at == point
is_sent_at point (Some (Carried g)) = false

-- whether the commit at a point sent the first action that waits for an agent
abbrev pub is_headed : ℕ → Option Agent → Bool
is_headed point there = is_sent_at point (sent_by_at there 0)

-- Each agent has a mark, which is set where it is ready.
abbrev pub AreMarked : List Agent → List ℕ → List Bool → Type 0
AreMarked agents unreleased marks =
    (length marks ≡ length agents) × ((g : ℕ) → is_set marks g ≡ is_ready_if_here unreleased (slice_get agents g))

-- Each agent whose first action a commit sent is there, with the commit's point.
abbrev pub HaveHeads : List Agent → List (ℕ × ℕ) → Type 0
HaveHeads agents heads = (g point : ℕ) → is_headed point (slice_get agents g) ≡ true → has_pair heads point g ≡ true

pub record IsIndexed (agents : List Agent) (unreleased : List ℕ) (marks : List Bool) (pairs : List (ℕ × ℕ)) : Type 0 where
  pub marked : AreMarked agents unreleased marks
  pub heads : HaveHeads agents pairs

-- What is answered at the end of an agent's first action: the agent is here.
abbrev pub IsEnd : ℕ → List Edn → Result Edn AgentError → Finished → Option Agent → Type 0
IsEnd g keys judgement finished None = ⊥
IsEnd g keys judgement finished (Some agent) = IsAnswer agent.mode g keys agent.value judgement finished

-- An agent is the next one that is ready, from a number on and then from 0 on.
pub record IsNext (seen : IndexedSeen) (first g : ℕ) : Type 0 where
  pub ready : is_ready_if_here seen.unreleased (slice_get seen.items g) ≡ true
  pub turn : (h : ℕ) → first ≤ h → (first ≤ g → h < g) → is_ready_if_here seen.unreleased (slice_get seen.items h) ≡ false
  pub round : g < first → (h : ℕ) → h < g → is_ready_if_here seen.unreleased (slice_get seen.items h) ≡ false
