-- The tally: at most one ref, an integer. It is changed by `commute` of `+` and of `-`, each with one integer of 0 or more, and by
-- nothing else. What is added to it and what is taken from it is counted apart.
use Rattle.std.specs.Prelude.{ℕ, ℤ, pos, ◌+ℤ◌, ◌-ℤ◌, ◌==◌, ◌+◌, ◌&&◌, ◌||◌, not, Bool, true, false, if◌then◌else◌, List, [], ◌∷◌, Option, None, Some, slice_get, ◌≡◌}
use Rattle.std.specs.List.{list_all}
use Rattle.ref_value.specs.Edn.{Edn, int}
use Rattle.ref_fun.specs.Integers.{int_of}
use Rattle.ref_log.specs.declared.counting.Side.{Side}
use Rattle.ref_log.specs.declared.counting.Side.TheVariants.{Added, Taken}
use Rattle.ref_log.specs.declared.entries.Entry.{Entry}
use Rattle.ref_log.specs.declared.entries.Entry.TheVariants.{Trans, Atom, MadeRef, MadeAtom}
use Rattle.ref_log.specs.declared.operations.Done.{Done}
use Rattle.ref_log.specs.declared.operations.Op.{Op}
use Rattle.ref_log.specs.declared.operations.Op.TheVariants.{Set, Alter, Commute, Ensure}

-- ---- what the tally takes

-- the code of the function that moves the tally to this side: `+` adds, `-` takes
abbrev pub code_of : Side → ℕ
code_of Added = 1
code_of Taken = 2

-- whether the arguments are one integer of 0 or more
abbrev pub is_count : List Edn → Bool
is_count (int (pos n) ∷ []) = true
is_count args = false

-- Whether an operation moves the tally to this side alone: `commute` of its function with a count. `ensure` changes nothing.
abbrev pub fits_side : Side → Op → Bool
fits_side side (Set w) = false
fits_side side (Alter code args) = false
fits_side side (Commute code args) = (code == code_of side) && is_count args
fits_side side Ensure = true

-- whether the tally takes an operation
abbrev pub fits_tally : Op → Bool
fits_tally op = fits_side Added op || fits_side Taken op

abbrev pub is_tally : Option ℕ → ℕ → Bool
is_tally (Some t) r = t == r
is_tally None r = false

-- Each operation on the tally is one that the tally takes.
abbrev pub fit_tally : Option ℕ → List Done → Bool
fit_tally tally ds = list_all (λ d. not (is_tally tally d.r) || fits_tally d.op) ds

abbrev pub fits_entry : Option ℕ → Entry → Bool
fits_entry tally (Trans t) = fit_tally tally t.dones
fits_entry tally (Atom a op answer) = true
fits_entry tally (MadeRef v) = true
fits_entry tally (MadeAtom v) = true

-- ---- what is added to it, and what is taken from it

-- The number that a count is. It is asked of counts only, and is 0 elsewhere.
abbrev pub counted : List Edn → ℕ
counted (int (pos n) ∷ []) = n
counted args = 0

-- how far an operation on the tally moves it to this side: the argument of a `commute` of the side's function
abbrev pub moved_by : Side → Op → ℕ
moved_by side (Set w) = 0
moved_by side (Alter code args) = 0
moved_by side (Commute code args) = if code == code_of side then counted args else 0
moved_by side Ensure = 0

abbrev pub moved_by_done : Side → Option ℕ → Done → ℕ
moved_by_done side tally d = if is_tally tally d.r then moved_by side d.op else 0

-- how far these operations move the tally to this side
abbrev pub moved_by_dones : Side → Option ℕ → List Done → ℕ
moved_by_dones side tally [] = 0
moved_by_dones side tally (d ∷ ds) = moved_by_done side tally d + moved_by_dones side tally ds

abbrev pub moved_in : Side → Option ℕ → Entry → ℕ
moved_in side tally (Trans t) = moved_by_dones side tally t.dones
moved_in side tally (Atom a op answer) = 0
moved_in side tally (MadeRef v) = 0
moved_in side tally (MadeAtom v) = 0

-- how far these entries move the tally to this side
abbrev pub moved_of : Side → Option ℕ → List Entry → ℕ
moved_of side tally [] = 0
moved_of side tally (e ∷ es) = moved_in side tally e + moved_of side tally es

-- ---- its value

-- a value to which so much is added, and from which so much is taken
abbrev pub moved : ℤ → ℕ → ℕ → ℤ
moved n added taken = (n +ℤ pos added) -ℤ pos taken

abbrev pub int_found : Option Edn → ℤ
int_found (Some v) = int_of v
int_found None = pos 0

-- the tally's value, and 0 where there is no tally
abbrev pub tally_value : Option ℕ → List Edn → ℤ
tally_value (Some t) values = int_found (slice_get values t)
tally_value None values = pos 0

-- The tally's value is this integer, or there is no tally, and it is 0.
abbrev pub IsTally : Option ℕ → List Edn → ℤ → Type 0
IsTally (Some t) values n = slice_get values t ≡ Some (int n)
IsTally None values n = n ≡ pos 0

-- The tally's value is its start, and what was added, less what was taken. Where there is no tally, all three are 0.
abbrev pub IsMoved : Option ℕ → List Edn → ℕ → ℕ → ℕ → Type 0
IsMoved (Some t) values start added taken = slice_get values t ≡ Some (int (moved (pos start) added taken))
IsMoved None values start added taken = (start ≡ 0) × (added ≡ 0) × (taken ≡ 0)

-- what the tally begins with, where it begins with a count; 0 where there is no tally
abbrev pub count_found : Option Edn → ℕ
count_found (Some v) = counted (v ∷ [])
count_found None = 0

abbrev pub start_of : Option ℕ → List Edn → ℕ
start_of (Some t) values = count_found (slice_get values t)
start_of None values = 0

-- ---- how many transactions were committed

abbrev pub commits_in : Entry → ℕ
commits_in (Trans t) = 1
commits_in (Atom a op answer) = 0
commits_in (MadeRef v) = 0
commits_in (MadeAtom v) = 0

abbrev pub commits_of : List Entry → ℕ
commits_of [] = 0
commits_of (e ∷ es) = commits_in e + commits_of es
