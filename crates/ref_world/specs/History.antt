-- The history of a world: all that changed its refs and atoms since it was made. It only grows. Base and log of the world are parts of it.
use Rattle.std.specs.Prelude.{◌≡◌, ℕ, ◌-◌, ◌+◌, nat_lt, true, if◌then◌else◌, List, [], ◌∷◌, ◌++◌, None, Result, Ok, Err, length, slice_index_or, take, drop}
use Rattle.std.specs.Result.{is_ok}
use Rattle.ref_value.specs.Edn.{Edn}
use Rattle.ref_fun.specs.Meaning.{Means}
use Rattle.ref_log.specs.Replay.{last_change, point_after, replay, state_of}
use Rattle.ref_log.specs.Tally.{commits_of}
use Rattle.ref_log.specs.declared.entries.Entry.{Entry}
use Rattle.ref_log.specs.declared.faults.AuditFault.{AuditFault}
use Rattle.ref_log.specs.declared.states.Base.{Base}
use Rattle.ref_log.specs.declared.states.PlainState.{PlainState}
use Rattle.ref_world.specs.Seen.{HistorySeen}
use Rattle.ref_world.specs.declared.histories.Act.{Act}
use Rattle.ref_world.specs.declared.histories.Act.TheVariants.{Began, Entered}

-- ---- what it says

-- the point of its last entry
abbrev pub point_in : HistorySeen → ℕ
point_in h = point_after h.start h.entries

-- the values after it, or the first fault of its replay
abbrev pub state_in : Means → HistorySeen → Result PlainState AuditFault
state_in means h = replay means h.start h.entries

abbrev pub refs_of : Result PlainState AuditFault → List Edn
refs_of (Ok state) = state.refs
refs_of (Err fault) = []

-- the values of all refs after it
abbrev pub refs_in : Means → HistorySeen → List Edn
refs_in means h = refs_of (state_in means h)

abbrev pub atoms_of : Result PlainState AuditFault → List Edn
atoms_of (Ok state) = state.atoms
atoms_of (Err fault) = []

-- the values of all atoms after it
abbrev pub atoms_in : Means → HistorySeen → List Edn
atoms_in means h = atoms_of (state_in means h)

-- the point of a ref's last change in it
abbrev pub changed_in : HistorySeen → ℕ → ℕ
changed_in h r = last_change h.start h.entries r

-- Each of its entries was one legal step on the values that the ones before it gave.
abbrev pub IsLegal : Means → HistorySeen → Type 0
IsLegal means h = is_ok (state_in means h) ≡ true

-- ---- how it grows

-- with an entry more
abbrev pub with_entry : HistorySeen → Entry → HistorySeen
with_entry h e = record h { entries = h.entries ++ e ∷ [] }

-- The first begins the second: nothing in it was changed or taken out.
pub record Begins (one other : HistorySeen) : Type 0 where
  pub more : List Entry
  pub start : other.start ≡ one.start
  pub entries : other.entries ≡ one.entries ++ more

-- of two, the one with more entries
abbrev pub longer : HistorySeen → HistorySeen → HistorySeen
longer one other = if nat_lt (point_in one) (point_in other) then other else one

-- ---- its parts

-- of its entries, those up to a point, and those after it
abbrev pub first_in : HistorySeen → ℕ → List Entry
first_in h point = take (point - h.start.point) h.entries

abbrev pub later_in : HistorySeen → ℕ → List Entry
later_in h point = drop (point - h.start.point) h.entries

-- as it was at a point
abbrev pub upto : HistorySeen → ℕ → HistorySeen
upto h point = record h { entries = first_in h point }

-- A base and the log after it are parts of the history: the base has the values, the last changes and the count of commits after the entries
-- up to its point, and the log has the others.
pub record IsCut (means : Means) (h : HistorySeen) (base : Base) (log : List Entry) : Type 0 where
  pub left : log ≡ later_in h base.point
  pub point : base.point ≡ point_after h.start (first_in h base.point)
  pub replayed : replay means h.start (first_in h base.point) ≡ Ok (state_of base)
  pub changed : (r : ℕ) → slice_index_or base.last r 0 ≡ last_change h.start (first_in h base.point) r
  pub commits : base.commits ≡ h.start.commits + commits_of (first_in h base.point)

-- ---- how it is recorded: what the world began with, and then each entry

-- where nothing is recorded
abbrev nothing : Base
nothing = record { point = 0; refs = []; last = []; atoms = []; tally = None; commits = 0; added = 0; taken = 0 }

abbrev pub start_told : List Act → Base
start_told [] = nothing
start_told (Began base ∷ acts) = base
start_told (Entered e ∷ acts) = nothing

abbrev pub entries_told : List Act → List Entry
entries_told [] = []
entries_told (Began base ∷ acts) = entries_told acts
entries_told (Entered e ∷ acts) = e ∷ entries_told acts

abbrev pub told : List Act → HistorySeen
told acts = record { start = start_told acts; entries = entries_told acts }

-- The world began.
pub record HasBegun (acts : List Act) : Type 0 where
  pub base : Base
  pub later : List Act
  pub begins : acts ≡ Began base ∷ later
