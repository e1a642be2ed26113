-- What is always so of a machine: of its open transactions, of its jobs, of what is carried, and of the history.
use Rattle.std.specs.Prelude.{IfSome, ◌≢◌, ◌≡◌, ◌==◌, ℕ, suc, ◌<◌, ◌≤◌, true, false, Bool, if◌then◌else◌, List, [], ◌∷◌, length, take, slice_get, Option, None, Some}
use Rattle.std.specs.List.{AllByRecursion}
use Rattle.std.proofs.Common.{◌⊎◌}
use Rattle.ref_fun.specs.Calls.{Known}
use Rattle.ref_fun.specs.Meaning.{Means}
use Rattle.ref_log.specs.Guards.{are_known}
use Rattle.ref_log.specs.Replay.{point_after}
use Rattle.ref_tx.specs.Inner.{IsTx, value_after}
use Rattle.ref_tx.specs.Seen.{TxSeen}
use Rattle.ref_refs.specs.Commit.{first_absent, lacking}
use Rattle.ref_refs.specs.Seen.{changed_at}
use Rattle.ref_fun.specs.declared.carries.Carry.{Carry}
use Rattle.ref_agents.specs.Account.{is_carried_by}
use Rattle.ref_agents.specs.Agents.{carries_at, error_at, is_carrying_at, job_out}
use Rattle.ref_agents.specs.declared.accounts.Queued.{Queued}
use Rattle.ref_agents.specs.declared.agents.Agent.{Agent}
use Rattle.ref_world.specs.Shares.{all_parts}
use Rattle.ref_world.specs.World.{IsWorld, with_tally}
use Rattle.ref_play.specs.Given.{queue_at}
use Rattle.ref_play.specs.Machine.{Look, Machine, history}
use Rattle.ref_play.specs.Present.{HeldSeen, Present, WithJob, WithTx}

-- ---- open transactions

-- The tally that a transaction knows is the one here, or one was made since, of a ref that it doesn't know.
abbrev pub KnowsTally : TxSeen → Option ℕ → Type 0
KnowsTally tx tally = (tx.tally ≡ tally) ⊎ ((t : ℕ) × (tx.tally ≡ None) × (tally ≡ Some t) × (length tx.began ≤ t))

-- Of a transaction that is open: its answers are the in-transaction values; a ref that hasn't changed after its read point has
-- the value that it began with; and it knows no ref and no agent that isn't here.
pub record IsOpen (means : Means) (now : Present) (tx : TxSeen) : Type 0 where
  pub is : IsTx means tx.began tx.dones tx.tally
  pub point : tx.read_point ≤ now.point
  pub count : length tx.began ≤ length now.refs.values
  pub same : (r : ℕ) → changed_at now.refs.lasts r ≤ tx.read_point → slice_get tx.began r ≡ slice_get now.refs.values r
  pub tally : KnowsTally tx now.refs.tally
  pub agents : tx.agents ≤ length now.agents.agents
  pub sends : first_absent tx.agents tx.sends ≡ None

abbrev pub AreOpen : Means → Present → Type 0
AreOpen means now = (a : ℕ) → WithTx (now.txs a) (IsOpen means now) (Unit {0})

-- What it was read from is the in-transaction value after the operations before it.
abbrev pub IsLook : Means → TxSeen → Look → Type 0
IsLook means tx look = (look.after ≤ length tx.dones) × (value_after means tx.began (take look.after tx.dones) look.r ≡ look.value)

-- ---- jobs

-- Of a job that an actor has: it is the one of its agent that is on its way, its agent isn't failed, what its agent carried before is
-- released, and what came of it, if it has run, is what its action means.
pub record IsHeld (means : Means) (agents : List Agent) (held : HeldSeen) : Type 0 where
  pub out : job_out agents held.job.agent ≡ Some held.job
  pub sound : error_at agents held.job.agent ≡ None
  pub released : is_carrying_at agents held.job.agent ≡ false
  pub meant : IfSome held.outcome (λ outcome. means held.job.action.code held.job.action.args held.job.state ≡ outcome)

-- Two jobs are of two agents.
abbrev pub Apart : Option HeldSeen → Option HeldSeen → Type 0
Apart one other = WithJob one (λ held. WithJob other (λ another. held.job.agent ≢ another.job.agent) (Unit {0})) (Unit {0})

-- whether an action of an agent is on its way
abbrev pub out_of : Option Agent → Bool
out_of None = false
out_of (Some agent) = agent.is_out

abbrev pub is_out_at : List Agent → ℕ → Bool
is_out_at agents g = out_of (slice_get agents g)

-- Some actor has the job of this agent.
abbrev pub IsOwned : (ℕ → Option HeldSeen) → ℕ → Type 0
IsOwned jobs g = (a : ℕ) × WithJob (jobs a) (λ held. held.job.agent ≡ g) ⊥

-- Of the jobs of all actors: each is held so, no two are of one agent, and whatever is on its way is one of them.
pub record AreHeld (means : Means) (agents : List Agent) (jobs : ℕ → Option HeldSeen) : Type 0 where
  pub held : (a : ℕ) → WithJob (jobs a) (IsHeld means agents) (Unit {0})
  pub apart : (a b : ℕ) → a ≢ b → Apart (jobs a) (jobs b)
  pub owned : (g : ℕ) → is_out_at agents g ≡ true → IsOwned jobs g

abbrev pub AreJobs : Means → Present → Type 0
AreJobs means now = AreHeld means now.agents.agents now.jobs

-- ---- what is carried

-- how many of these carried sends go to an agent
abbrev pub sends_to : List Carry → ℕ → ℕ
sends_to [] g = 0
sends_to (c ∷ cs) g = if c.g == g then suc (sends_to cs g) else sends_to cs g

-- how many of these actions are held in the name of an agent
abbrev pub held_by : ℕ → List Queued → ℕ
held_by h [] = 0
held_by h (q ∷ qs) = if is_carried_by h q.by then suc (held_by h qs) else held_by h qs

-- How many that wait for g may be held in the name of h: what its last action carried to g, as long as that isn't released.
abbrev pub may_hold : List Agent → ℕ → ℕ → ℕ
may_hold agents h g = if is_carrying_at agents h then sends_to (carries_at agents h) g else 0

-- Of an action that waits: the agents that it carries sends to are here.
abbrev pub IsWaiting : List Agent → Queued → Type 0
IsWaiting agents q = AllByRecursion (λ c. c.g < length agents) q.action.carries

-- Of all agents: so it is of what waits for them, no more is held in an agent's name than its last action carried, and while that
-- isn't released, the agent isn't failed.
pub record AreCarried (agents : List Agent) : Type 0 where
  pub waits : (g : ℕ) → AllByRecursion (IsWaiting agents) (queue_at agents g)
  pub holds : (h g : ℕ) → held_by h (queue_at agents g) ≤ may_hold agents h g
  pub sound : (g : ℕ) → is_carrying_at agents g ≡ true → error_at agents g ≡ None

-- ---- the table

-- A table has each function that an open transaction commutes by.
abbrev pub AreServed : (ℕ → Bool) → (ℕ → Option TxSeen) → Type 0
AreServed knows txs = (a : ℕ) → WithTx (txs a) (λ tx. lacking knows tx.dones ≡ None) (Unit {0})

-- A table has the predicate of each rule, and each function that an open transaction commutes by.
abbrev pub IsServed : Known → Present → Type 0
IsServed knows now =
    (are_known knows.preds now.refs.guards ≡ true) × (are_known knows.preds now.atoms.guards ≡ true) × (are_known knows.preds now.agents.guards ≡ true)
    × AreServed knows.funs now.txs

-- ---- the machine

-- Of a machine: the values now are the replay of the whole history on the base with which it began, and the share is whole.
pub record IsLawful (means : Means) (m : Machine) : Type 0 where
  pub world : IsWorld means (with_tally m.now.refs.tally m.base) (history m) m.now.refs m.now.atoms m.now.agents.unreleased
  pub point : m.now.point ≡ point_after m.base (history m)
  pub lasts : length m.now.refs.lasts ≡ length m.now.refs.values
  pub share : m.now.share.parts ≡ all_parts
  pub opens : AreOpen means m.now
  pub looks : (a : ℕ) → WithTx (m.now.txs a) (λ tx. AllByRecursion (IsLook means tx) (m.looks a)) (Unit {0})
  pub jobs : AreJobs means m.now
  pub carried : AreCarried m.now.agents.agents
