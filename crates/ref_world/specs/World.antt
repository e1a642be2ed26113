-- What is always so in a world, and what a call adds.
use Rattle.std.specs.Prelude.{◌≡◌, ◌<◌, ◌≤◌, ℕ, ◌^◌, ◌+◌, ◌-◌, nat_lt, not, Bool, true, false, List, [], ◌∷◌, ◌++◌, if◌then◌else◌, length, slice_get, slice_set, Option, Ok}
use Rattle.std.specs.List.{list_all}
use Rattle.std.specs.Result.{is_ok}
use Rattle.ref_value.specs.Edn.{Edn}
use Rattle.ref_fun.specs.Calls.{Known}
use Rattle.ref_fun.specs.Meaning.{Means}
use Rattle.ref_fun.specs.Rule.{Accepts}
use Rattle.ref_log.specs.Guards.{AreAccepted}
use Rattle.ref_log.specs.Replay.{after_dones, is_changed_by, is_protected, last_change, point_after, replay, sets_atom, step}
use Rattle.ref_log.specs.Tally.{IsMoved, commits_in, commits_of, counted, fit_tally, fits_entry, moved_by_dones, moved_in, moved_of}
use Rattle.ref_log.specs.declared.counting.Side.TheVariants.{Added, Taken}
use Rattle.ref_log.specs.declared.entries.Entry.{Entry}
use Rattle.ref_log.specs.declared.entries.Stamp.{Stamp}
use Rattle.ref_log.specs.declared.entries.Entry.TheVariants.{MadeRef}
use Rattle.ref_log.specs.declared.sends.Sent.{Sent}
use Rattle.ref_log.specs.declared.states.Base.{Base}
use Rattle.ref_log.specs.declared.states.PlainState.{PlainState}
use Rattle.ref_agents.specs.Agents as agents
use Rattle.ref_agents.specs.Agents.{AgentsSeen}
use Rattle.ref_atoms.specs.Atoms.{AtomsSeen}
use Rattle.ref_atoms.specs.declared.changes.Change.{Change}
use Rattle.ref_refs.specs.Commit as refs
use Rattle.ref_refs.specs.Ready.{CanInstall}
use Rattle.ref_refs.specs.Seen.{RefsSeen, are_unchanged_since, changed_at}
use Rattle.ref_refs.specs.Watches.{notices, touched_refs}
use Rattle.ref_refs.specs.declared.committing.Prepared.{Prepared}
use Rattle.ref_refs.specs.declared.faults.CommitFault.{CommitFault}
use Rattle.ref_tx.specs.Inner.{inner_value}
use Rattle.ref_tx.specs.Seen.{TxSeen}
use Rattle.ref_world.specs.Seen.{BooksSeen, WorldSeen}
use Rattle.ref_log.specs.Limits.{last_point}

-- the values of all refs and atoms now
abbrev pub values_now : RefsSeen → AtomsSeen → PlainState
values_now refs atoms = record { refs = refs.values; atoms = atoms.values }

-- the present point: that of the last entry
abbrev pub point_of : WorldSeen → ℕ
point_of world = point_after world.base world.log

-- Every ref and atom holds what the stored entries, replayed one by one on the stored base with commutes on the latest value,
-- give with the kept answers.
abbrev pub IsReplayed : Means → Base → List Entry → RefsSeen → AtomsSeen → Type 0
IsReplayed means base log refs atoms = replay means base log ≡ Ok (values_now refs atoms)

-- The log has a replay on the base.
abbrev pub HasReplay : Means → Base → List Entry → Type 0
HasReplay means base log = is_ok (replay means base log) ≡ true

-- The point of each ref's last change is that of the last entry which made or touched it.
abbrev pub HasLastChanges : Base → List Entry → RefsSeen → Type 0
HasLastChanges base log refs = (r : ℕ) → changed_at refs.lasts r ≡ last_change base log r

-- None of these points comes after this one.
abbrev pub are_past : ℕ → List ℕ → Bool
are_past point points = list_all (λ p. not (nat_lt point p)) points

-- What is always so: also, the base has the last change of each of its refs and names the tally, no ref has changed after
-- the present point and no commit whose sends are held comes after it, an atom's entries set it, and points end at 2^62.
pub record IsWorld (means : Means) (base : Base) (log : List Entry) (refs : RefsSeen) (atoms : AtomsSeen) (unreleased : List ℕ) : Type 0 where
  pub replayed : IsReplayed means base log refs atoms
  pub changed : HasLastChanges base log refs
  pub tally : base.tally ≡ refs.tally
  pub since : are_unchanged_since refs.lasts (point_after base log) ≡ true
  pub held : are_past (point_after base log) unreleased ≡ true
  pub limit : point_after base log ≤ last_point
  pub lasts : length base.last ≡ length base.refs
  pub sets : list_all sets_atom log ≡ true

-- the most that can be added to the tally in all, and the most that can be taken from it
abbrev pub most_booked : ℕ
most_booked = 2 ^ 63 - 1

-- how much a book that has so much can still take
abbrev pub room : ℕ → ℕ
room booked = most_booked - booked

-- What the books say: the commits are those up to the base and the transactions of the log, and what was added to the tally is
-- what was added up to the base and the arguments of the commutes by `+` on the tally in the log; what was taken, likewise by `-`. No
-- entry changes the tally in another way, and it holds its start plus what was added less what was taken.
pub record AreBooks (base : Base) (log : List Entry) (tally : Option ℕ) (values : List Edn) (books : BooksSeen) : Type 0 where
  pub commits : books.commits ≡ base.commits + commits_of log
  pub added : books.added ≡ base.added + moved_of Added tally log
  pub taken : books.taken ≡ base.taken + moved_of Taken tally log
  pub lawful : list_all (fits_entry tally) log ≡ true
  pub holds : IsMoved tally values books.start books.added books.taken
  pub limit : books.commits ≤ point_after base log
  pub most_added : books.added ≤ most_booked
  pub most_taken : books.taken ≤ most_booked

-- An entry that commits nothing and doesn't move the tally.
abbrev pub IsUncounted : Option ℕ → Entry → Type 0
IsUncounted tally e = (commits_in e ≡ 0) × (moved_in Added tally e ≡ 0) × (moved_in Taken tally e ≡ 0) × (fits_entry tally e ≡ true)

-- The first fault of a commit of this transaction that is known before any memory is taken, and the first fault of all.
abbrev pub early_refusal : Known → WorldSeen → TxSeen → Option CommitFault
early_refusal knows world tx = refs.early_refusal knows world.refs (point_of world + 1) (length world.agents.agents) tx

abbrev pub commit_refusal : Means → Accepts → Known → WorldSeen → TxSeen → Option CommitFault
commit_refusal means accepts knows world tx =
    refs.commit_refusal means accepts knows world.refs (point_of world + 1) (length world.agents.agents) (room world.books.added) (room world.books.taken) tx

-- What a commit of this transaction that was prepared does, on this world: the store of refs can make it at the next point, and the books
-- have room for what it moves.
abbrev pub IsReady : Means → Accepts → WorldSeen → Stamp → TxSeen → Prepared → Type 0
IsReady means accepts world stamp tx p = CanInstall means accepts world.refs (point_of world + 1) (room world.books.added) (room world.books.taken) stamp tx p

-- What a change of an atom that was prepared does, on this world: its entry is one step to the values with this one in its place, which keeps
-- the rules; it is an entry of an atom, and nothing that the books count.
pub record CanEnter (means : Means) (accepts : Accepts) (world : WorldSeen) (a : ℕ) (change : Change) : Type 0 where
  pub here : a < length world.atoms.values
  pub accepted : AreAccepted accepts world.atoms.guards (slice_set world.atoms.values a change.value)
  pub limit : point_of world + 1 ≤ last_point
  pub step : (refs : List Edn) → step means (point_of world + 1) change.entry (record { refs = refs; atoms = world.atoms.values }) ≡ Ok (record { refs = refs; atoms = slice_set world.atoms.values a change.value })
  pub sets : sets_atom change.entry ≡ true
  pub leaves : (refs r : ℕ) → is_changed_by refs change.entry r ≡ false
  pub uncounted : (tally : Option ℕ) → IsUncounted tally change.entry

-- ---- a world after a call

-- with an entry more, and the refs and atoms after it
abbrev pub with_entry : WorldSeen → Entry → RefsSeen → AtomsSeen → WorldSeen
with_entry world e refs atoms = record world { log = world.log ++ e ∷ []; refs = refs; atoms = atoms }

-- the books with a commit more, and what it added and took
abbrev pub booked : BooksSeen → ℕ → ℕ → BooksSeen
booked books added taken = record books { commits = books.commits + 1; added = books.added + added; taken = books.taken + taken }

-- with a commit's entry, the refs after it, its sends at the ends of their queues, where they are held, and the books after it
abbrev pub with_commit : WorldSeen → Entry → RefsSeen → List Sent → WorldSeen
with_commit world e refs sends = record world {
  log = world.log ++ e ∷ [];
  refs = refs;
  agents = agents.with_commit world.agents (point_of world + 1) sends;
  books = booked world.books (moved_in Added world.refs.tally e) (moved_in Taken world.refs.tally e);
}

-- with other refs, other atoms or other agents, and no entry
abbrev pub with_refs : WorldSeen → RefsSeen → WorldSeen
with_refs world refs = record world { refs = refs }

abbrev pub with_atoms : WorldSeen → AtomsSeen → WorldSeen
with_atoms world atoms = record world { atoms = atoms }

abbrev pub with_agents : WorldSeen → AgentsSeen → WorldSeen
with_agents world store = record world { agents = store }

-- with a base that names another tally
abbrev pub with_tally : Option ℕ → Base → Base
with_tally tally base = record base { tally = tally }

-- the books after a ref was made with this value, as the tally or not
abbrev pub with_start : Bool → Edn → BooksSeen → BooksSeen
with_start tally value books = record books { start = if tally then counted (value ∷ []) else books.start }

-- with a ref that was made with this value, as the tally or not, where these are the refs then
abbrev pub with_made_ref : WorldSeen → Edn → Bool → RefsSeen → WorldSeen
with_made_ref world value tally refs = record world {
  base = with_tally refs.tally world.base;
  log = world.log ++ MadeRef value ∷ [];
  refs = refs;
  books = with_start tally value world.books;
}
