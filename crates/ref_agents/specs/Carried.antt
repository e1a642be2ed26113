-- What is held: which commits' sends may not be taken yet, and what actions carried.
use Rattle.std.specs.Prelude.{◌≡◌, ◌≤◌, ◌<◌, ◌==◌, ℕ, suc, true, if◌then◌else◌, List, [], ◌∷◌, Option, None, Some, slice_get}
use Rattle.std.specs.List.{AllByRecursion}
use Rattle.ref_fun.specs.declared.carries.Carry.{Carry}
use Rattle.ref_agents.specs.Account.{is_carried_by}
use Rattle.ref_agents.specs.Agents.{carries_at, error_at, is_carrying_at}
use Rattle.ref_agents.specs.declared.accounts.Queued.{Queued}
use Rattle.ref_agents.specs.declared.agents.Agent.{Agent}

-- ---- commits

-- Points ascend, so that each stands once.
abbrev pub AreRising : List ℕ → Type 0
AreRising [] = Unit {0}
AreRising (n ∷ ns) = AllByRecursion (λ m. n < m) ns × AreRising ns

-- ---- what actions carried

abbrev pub queue_if_here : Option Agent → List Queued
queue_if_here None = []
queue_if_here (Some agent) = agent.account.queue

-- what waits for an agent
abbrev pub queue_at : List Agent → ℕ → List Queued
queue_at agents g = queue_if_here (slice_get agents g)

-- how many of these carried sends go to an agent
abbrev pub sends_to : List Carry → ℕ → ℕ
sends_to [] g = 0
sends_to (c ∷ cs) g = if c.g == g then suc (sends_to cs g) else sends_to cs g

-- how many of these actions are held in the name of an agent
abbrev pub held_by : ℕ → List Queued → ℕ
held_by h [] = 0
held_by h (q ∷ qs) = if is_carried_by h q.by then suc (held_by h qs) else held_by h qs

-- How many that wait for g may be held in the name of h: what its last action carried to g, as long as that isn't released.
abbrev pub may_hold : List Agent → ℕ → ℕ → ℕ
may_hold agents h g = if is_carrying_at agents h then sends_to (carries_at agents h) g else 0

-- Of all agents: no more is held in an agent's name than its last action carried, and while that isn't released, the agent isn't
-- failed.
pub record AreCarried (agents : List Agent) : Type 0 where
  pub holds : (h g : ℕ) → held_by h (queue_at agents g) ≤ may_hold agents h g
  pub sound : (g : ℕ) → is_carrying_at agents g ≡ true → error_at agents g ≡ None
