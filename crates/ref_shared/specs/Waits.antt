-- Those who wait: for actions of agents to be gone, and for a transaction that isn't ready.
use Rattle.std.specs.Prelude.{◌≡◌, ◌+◌, ◌-◌, ◌^◌, ◌≤◌, ◌<◌, ◌==◌, ◌||◌, ℕ, Bool, true, false, if◌then◌else◌, is_some, nat_le, nat_lt, min, unwrap_or, List, [], ◌∷◌, filter, length, Option, None, Some, Result, Ok, Err}
use Rattle.std.specs.List.{All, IsAmong}
use Rattle.std.specs.BTreeMap.{BTreeMap, get}
use Rattle.std.specs.Ordering.{nat_cmp}
use Rattle.std.proofs.Common.{◌⊎◌}
use Rattle.ref_agents.specs.Account.{AccountSeen}
use Rattle.ref_agents.specs.Agents.{account_at, error_at}
use Rattle.ref_agents.specs.declared.agents.Agent.{Agent}
use Rattle.ref_agents.specs.declared.ends.Finished.{Finished}
use Rattle.ref_agents.specs.declared.ends.Finished.TheVariants.{Changed, Failed, Continued}
use Rattle.ref_fun.specs.Meaning.{Means}
use Rattle.ref_log.specs.declared.entries.Stamp.{Stamp}
use Rattle.ref_refs.specs.Conflicts.{IsConflictOf}
use Rattle.ref_world.specs.History.{changed_in, point_in}
use Rattle.ref_world.specs.Seen.{HistorySeen, ShareSeen}
use Rattle.ref_shared.specs.Bodies.{Doing, Call, Called, IsFinal, WasInConflict, earlier_of, seeing}
use Rattle.ref_shared.specs.Commits.{HasCommitted}
use Rattle.ref_shared.specs.declared.faults.AwaitFault.{AwaitFault}
use Rattle.ref_shared.specs.declared.faults.AwaitFault.TheVariants as awaits
use Rattle.ref_shared.specs.declared.faults.TransactFault.TheVariants as transacts
use Rattle.ref_shared.specs.declared.faults.WaitFault.{WaitFault}
use Rattle.ref_shared.specs.declared.faults.WaitFault.TheVariants as waits
use Rattle.ref_shared.specs.declared.waiters.Awaited.{Awaited}
use Rattle.ref_shared.specs.declared.waiters.Look.{Look}
use Rattle.ref_shared.specs.declared.waiters.Look.TheVariants as looks
use Rattle.ref_shared.specs.declared.waiters.Target.{Target}

-- ---- agents

-- what is stored of an agent, if somebody waits for it
abbrev pub awaited_at : Option (BTreeMap ℕ Awaited) → ℕ → Option Awaited
awaited_at None g = None
awaited_at (Some agents) g = get nat_cmp agents g

-- how many actions of an agent are gone since the first of those who wait for it came
abbrev pub gone_in : Option Awaited → ℕ
gone_in None = 0
gone_in (Some awaited) = awaited.gone

abbrev pub gone_at : Option (BTreeMap ℕ Awaited) → ℕ → ℕ
gone_at agents g = gone_in (awaited_at agents g)

-- Of this agent x is stored from now on, of each other what was.
abbrev pub Stores : Option (BTreeMap ℕ Awaited) → Option (BTreeMap ℕ Awaited) → ℕ → Option Awaited → Type 0
Stores old new g x = (awaited_at new g ≡ x) × ((h : ℕ) → (h == g) ≡ false → awaited_at new h ≡ awaited_at old h)

-- the greatest number of 64 bits, at which counts stay
abbrev pub most : ℕ
most = 2 ^ 64 - 1

-- what is stored once one more waits for an agent
abbrev pub with_waiter : Option Awaited → Awaited
with_waiter None = record { gone = 0; waiters = 1; next = most }
with_waiter (Some a) = record a { waiters = min (a.waiters + 1) most }

-- what is stored once one fewer does: nothing if it was the last
abbrev pub less_waiter : Awaited → Option Awaited
less_waiter a = if nat_lt 0 (a.waiters - 1) then Some (record a { waiters = a.waiters - 1 }) else None

abbrev pub without_waiter : Option Awaited → Option Awaited
without_waiter None = None
without_waiter (Some a) = less_waiter a

-- Whether those who wait for an agent are to be woken, once so many of its actions are gone: it is enough for one of them, or all are.
abbrev pub wakes_at : Bool → ℕ → Awaited → Bool
wakes_at all gone a = all || nat_le a.next gone

abbrev pub ended_by : Bool → ℕ → Awaited → Awaited
ended_by all gone a = record { gone = gone; waiters = a.waiters; next = if wakes_at all gone a then most else a.next }

-- what is stored once so many more of its actions are gone: who is woken says anew what it waits for
abbrev pub after_end : ℕ → Bool → Option Awaited → Option Awaited
after_end many all None = None
after_end many all (Some a) = Some (ended_by all (min (a.gone + many) most) a)

-- whether those who wait for it are to be woken then
abbrev pub wakes : ℕ → Bool → Option Awaited → Bool
wakes many all None = false
wakes many all (Some a) = wakes_at all (min (a.gone + many) most) a

-- what is stored once somebody is to be woken when so many are gone
abbrev pub woken_at : ℕ → Option Awaited → Option Awaited
woken_at count None = None
woken_at count (Some a) = Some (if nat_lt count a.next then record a { next = count } else a)

-- whether an action that ended so failed its agent
abbrev pub fails : Finished → Bool
fails (Changed notices) = false
fails (Failed error) = true
fails (Continued error) = false

-- All is gone that is waited for.
abbrev pub is_through : Option (BTreeMap ℕ Awaited) → Target → Bool
is_through awaited target = nat_le target.count (gone_at awaited target.g)

-- how many actions wait for an agent, if it is there
abbrev pub queued_in : Option AccountSeen → Option ℕ
queued_in None = None
queued_in (Some account) = Some (length account.queue)

abbrev pub queued_at : List Agent → ℕ → Option ℕ
queued_at agents g = queued_in (account_at agents g)

-- Who begins to wait for an agent waits for all that is in its queue.
abbrev pub target_of : Option (BTreeMap ℕ Awaited) → List Agent → ℕ → Target
target_of awaited agents g = record { g = g; count = min (gone_at awaited g + unwrap_or (queued_at agents g) 0) most }

-- A look from an agent that isn't through at the others: one of them may be failed.
abbrev pub left_of : Look → Look
left_of looks.Through = looks.Left
left_of looks.Left = looks.Left
left_of (looks.Failed g) = looks.Failed g

-- A look at what is waited for: the first agent that isn't through and is failed; else whether all are through.
abbrev pub look_of : Option (BTreeMap ℕ Awaited) → List Agent → List Target → Look
look_of awaited agents [] = looks.Through
look_of awaited agents (target ∷ targets) =
    if is_through awaited target then look_of awaited agents targets
    else if is_some (error_at agents target.g) then looks.Failed target.g
    else left_of (look_of awaited agents targets)

-- The faults of beginning to wait for an agent: it isn't there, or there is no memory.
abbrev pub NamesNoOther : ℕ → AwaitFault → Type 0
NamesNoOther g (awaits.NoSuchAgent h) = h ≡ g
NamesNoOther g (awaits.Failed h) = ⊥
NamesNoOther g awaits.Closed = ⊥
NamesNoOther g awaits.Memory = Unit {0}

-- The agent that a fault names is one of those that were waited for.
abbrev pub NamesOneOf : List ℕ → AwaitFault → Type 0
NamesOneOf agents (awaits.NoSuchAgent g) = IsAmong agents g
NamesOneOf agents (awaits.Failed g) = IsAmong agents g
NamesOneOf agents awaits.Closed = Unit {0}
NamesOneOf agents awaits.Memory = Unit {0}

-- ---- transactions

-- whether a body returned a value, so that a commit was tried
abbrev pub is_value : {T E : Type 0} → Result (Option T) E → Bool
is_value (Ok None) = false
is_value (Ok (Some answer)) = true
is_value (Err e) = false

-- the calls after which a commit was tried
abbrev pub tried : {T E : Type 0} → List (Call (Result (Option T) E)) → List (Call (Result (Option T) E))
tried calls = filter (λ call. is_value call.answer) calls

-- A call after which the commit of what it left was in conflict.
pub record IsInConflict {T E : Type 0} (known : HistorySeen) (call : Call (Result (Option T) E)) : Type 0 where
  pub answered : is_value call.answer ≡ true
  pub conflict : WasInConflict known call

-- A call that wasn't ready, where an entry came after its transaction began.
pub record IsOvertaken {T E : Type 0} (known : HistorySeen) (call : Call (Result (Option T) E)) : Type 0 where
  pub waits : call.answer ≡ Ok None
  pub later : call.began.read_point < point_in known

-- A call after which the body is called again: it wasn't ready, and an entry came since; or the commit of what it left was in conflict.
abbrev pub IsCalledAgain : {T E : Type 0} → HistorySeen → Call (Result (Option T) E) → Type 0
IsCalledAgain known call = IsOvertaken known call ⊎ IsInConflict known call

-- These are all calls of the body that there were, and after at most so many of them a commit was tried. Each got a transaction that began
-- with the values after a beginning of the history that is known. Each but the last wasn't ready or ended in a conflict.
pub record AllWaits {B T E : Type 0} (means : Means) (known : HistorySeen) (does : Doing B (Result (Option T) E)) (body last : B) (calls : List (Call (Result (Option T) E))) (tries : ℕ) : Type 0 where
  pub called : Called (seeing means known does) body calls last
  pub few : length (tried calls) ≤ tries
  pub again : All (IsCalledAgain known) (earlier_of calls)

-- The last call of the body returned this value, and what it left was committed.
pub record Landed {B T E : Type 0} (means : Means) (does : Doing B (Result (Option T) E)) (body last : B) (tries : ℕ) (answer : T) (stamp : Stamp) (point : ℕ) (old new : ShareSeen) : Type 0 where
  pub call : Call (Result (Option T) E)
  pub earlier : List (Call (Result (Option T) E))
  pub calls : AllWaits means new.history does body last (call ∷ earlier) tries
  pub answered : call.answer ≡ Ok (Some answer)
  pub landed : HasCommitted means stamp call.left point old new

-- When a transaction that waits fails: closed behind a last call that wasn't ready, if no entry came since it began; giving up after all
-- tries, with a conflict of what the last call left, as the history shows that is known then; with a body's fault as the last call returned
-- it; with a commit's fault behind a last call that returned a value.
abbrev pub WaitFails : {B T E : Type 0} → Means → HistorySeen → Doing B (Result (Option T) E) → B → B → ℕ → WaitFault E → Type 0
WaitFails {B} {T} {E} means known does body last tries waits.Closed =
    (call : Call (Result (Option T) E)) × (earlier : List (Call (Result (Option T) E))) × AllWaits means known does body last (call ∷ earlier) tries
    × (call.answer ≡ Ok None) × (point_in known ≤ call.began.read_point)
WaitFails {B} {T} {E} means known does body last tries (waits.Transact (transacts.GaveUp n conflict)) =
    (call : Call (Result (Option T) E)) × (earlier : List (Call (Result (Option T) E))) × AllWaits means known does body last (call ∷ earlier) tries
    × (is_value call.answer ≡ true) × (n ≡ tries) × (length (tried (call ∷ earlier)) ≡ tries) × IsConflictOf call.left (changed_in known) conflict
WaitFails {B} {T} {E} means known does body last tries (waits.Transact (transacts.Body e)) =
    (call : Call (Result (Option T) E)) × (earlier : List (Call (Result (Option T) E))) × AllWaits means known does body last (call ∷ earlier) tries
    × (call.answer ≡ Err e)
WaitFails {B} {T} {E} means known does body last tries (waits.Transact (transacts.Commit fault)) =
    (call : Call (Result (Option T) E)) × (earlier : List (Call (Result (Option T) E))) × AllWaits means known does body last (call ∷ earlier) tries
    × (is_value call.answer ≡ true) × IsFinal fault
WaitFails {B} {T} {E} means known does body last tries (waits.Transact transacts.Memory) =
    (calls : List (Call (Result (Option T) E))) × AllWaits means known does body last calls tries
