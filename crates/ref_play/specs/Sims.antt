-- What a world with its actors shows, and which states of the machine it stands for.
use Rattle.std.specs.Prelude.{◌≡◌, ℕ, false, List, [], ◌∷◌, ◌++◌, Option, None, Some, Ok}
use Rattle.std.specs.BTreeMap.{is_at}
use Rattle.std.specs.Map.{lookup}
use Rattle.std.specs.Ordering.{nat_cmp}
use Rattle.ref_fun.specs.Calls.{Known}
use Rattle.ref_fun.specs.Meaning.{Means}
use Rattle.ref_fun.specs.Rule.{Accepts}
use Rattle.ref_log.specs.Replay.{point_after, replay, state_of}
use Rattle.ref_log.specs.declared.entries.Entry.{Entry}
use Rattle.ref_tx.specs.Seen.{TxSeen}
use Rattle.ref_agents.specs.Agents.{AgentsSeen, with_out}
use Rattle.ref_world.specs.Seen.{ShareSeen, WorldSeen}
use Rattle.ref_world.specs.Shares.{all_parts, knowing}
use Rattle.ref_world.specs.World.{point_of}
use Rattle.ref_play.specs.Laws.{LawsAlong}
use Rattle.ref_play.specs.Machine.{Folds, Machine, Run, checkpoint_of}
use Rattle.ref_play.specs.Present.{Acts, HeldSeen, Present}
use Rattle.ref_play.specs.Runs.{AreCarried, AreHeld, AreOpen, IsLawful, IsServed}
use Rattle.ref_play.specs.declared.events.Act.{Act}
use Rattle.ref_play.specs.declared.events.Event.{Event}
use Rattle.ref_play.specs.declared.events.Reply.{Reply}
use Rattle.ref_play.specs.declared.jobs.Stage.{Stage}
use Rattle.ref_play.specs.declared.jobs.Stage.TheVariants.{Taken, Ran}

-- ---- what actors have

-- of each actor that ever began a transaction, the one that it has open, if any
abbrev pub Slots : Type 0
Slots = List (ℕ × Option TxSeen)

-- of each actor that ever took a job, the one that it has, if any
abbrev pub JobSlots : Type 0
JobSlots = List (ℕ × Option HeldSeen)

abbrev pub in_slot : {X : Type 0} → Option (Option X) → Option X
in_slot None = None
in_slot (Some x) = x

abbrev pub slot_of : {X : Type 0} → List (ℕ × Option X) → ℕ → Option (Option X)
slot_of slots a = lookup (is_at (nat_cmp a)) slots

abbrev pub txs_of : Slots → ℕ → Option TxSeen
txs_of slots a = in_slot (slot_of slots a)

abbrev pub jobs_of : JobSlots → ℕ → Option HeldSeen
jobs_of slots a = in_slot (slot_of slots a)

-- what is seen of a job that hasn't run, or of one that has
abbrev pub held_seen : {M : Type 0} → Stage M → HeldSeen
held_seen (Taken job) = record { job = job; outcome = None }
held_seen (Ran ran) = record { job = ran.job; outcome = Some ran.outcome }

-- the agents with the job of a slot put back, if there is one, and with the jobs of all
abbrev pub one_back : Option HeldSeen → AgentsSeen → AgentsSeen
one_back None store = store
one_back (Some held) store = with_out store held.job.agent false

abbrev pub all_back : JobSlots → AgentsSeen → AgentsSeen
all_back [] store = store
all_back (slot ∷ slots) store = all_back slots (one_back slot.1 store)

-- ---- a world with its share and its actors

pub record SimSeen : Type 0 where
  pub world : WorldSeen
  pub share : ShareSeen
  pub slots : Slots
  pub jobs : JobSlots

-- As much is in the books of a world as before, and base and log are the same.
abbrev pub HaveSameBooks : WorldSeen → WorldSeen → Type 0
HaveSameBooks old new =
    (new.books.commits ≡ old.books.commits) × (new.books.added ≡ old.books.added) × (new.books.taken ≡ old.books.taken)
    × (new.base ≡ old.base) × (new.log ≡ old.log)

-- of a share what it counts: all but how far the history is known
abbrev pub counts_of : ShareSeen → ShareSeen
counts_of share = knowing share (record { start = record { point = 0; refs = []; last = []; atoms = []; tally = None; commits = 0; added = 0; taken = 0 }; entries = [] })

-- what there is now
abbrev pub present : SimSeen → Present
present s = record {
  point = point_of s.world;
  refs = s.world.refs;
  atoms = s.world.atoms;
  agents = s.world.agents;
  books = s.world.books;
  share = counts_of s.share;
  txs = txs_of s.slots;
  jobs = jobs_of s.jobs;
}

-- What its type guarantees: what is always so of open transactions, of jobs and of what is carried, and that the share is whole.
pub record IsSim (means : Means) (s : SimSeen) : Type 0 where
  pub opens : AreOpen means (present s)
  pub jobs : AreHeld means s.world.agents.agents (jobs_of s.jobs)
  pub carried : AreCarried s.world.agents.agents
  pub share : s.share.parts ≡ all_parts

-- The log after a call: with these entries more, of which the first went into the base.
pub record Logs (means : Means) (old new : WorldSeen) (added went : List Entry) : Type 0 where
  pub log : old.log ++ added ≡ went ++ new.log
  pub point : new.base.point ≡ point_after old.base went
  pub base : replay means old.base went ≡ Ok (state_of new.base)

-- The reply to an act of an actor, and what there is then.
pub record Serves (means : Means) (accepts : Accepts) (knows : Known) (old : SimSeen) (actor : ℕ) (act : Act) (reply : Reply) (new : SimSeen) : Type 0 where
  pub added : List Entry
  pub went : List Entry
  pub acts : Acts means accepts knows (present old) actor act reply added (present new)
  pub folds : Folds means knows (point_of old.world) old.world.base.point (Ok (state_of old.world.base)) old.world.log (checkpoint_of act) reply went
  pub logs : Logs means old.world new.world added went

-- ---- the machine that it stands for

-- The machine has seen what the Sim holds: its present is the same, and its entries that are gone are in the base.
pub record Stands (means : Means) (m : Machine) (s : SimSeen) : Type 0 where
  pub now : m.now ≡ present s
  pub log : m.log ≡ s.world.log
  pub point : s.world.base.point ≡ point_after m.base m.gone
  pub base : replay means m.base m.gone ≡ Ok (state_of s.world.base)
  pub lawful : IsLawful means m

-- The machine that begins with what the Sim holds.
abbrev pub machine_of : SimSeen → Machine
machine_of s = record { base = s.world.base; gone = []; log = s.world.log; now = present s; looks = λ a. [] }

-- What was played: a run of the machine, to one that has seen what the Sim holds then, with the laws at each of its steps.
pub record IsPlayed (means : Means) (accepts : Accepts) (knows : Known) (m : Machine) (events : List Event) (replies : List Reply) (new : SimSeen) : Type 0 where
  pub last : Machine
  pub run : Run means accepts knows m events replies last
  pub laws : LawsAlong means accepts knows m events replies last run
  pub stands : Stands means last new
  pub served : IsServed knows last.now
