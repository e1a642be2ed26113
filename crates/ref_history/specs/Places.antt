-- Where an entry stands in a log, and whether it is chosen.
use Rattle.std.specs.Prelude.{ℕ, ◌+◌, ◌==◌, ◌&&◌, nat_le, Bool, true, false, Option, None, Some, length}
use Rattle.std.specs.List.{list_any}
use Rattle.ref_log.specs.declared.entries.Entry.{Entry}
use Rattle.ref_log.specs.declared.entries.Entry.TheVariants.{Trans, Atom, MadeRef, MadeAtom}
use Rattle.ref_log.specs.declared.states.Base.{Base}
use Rattle.ref_history.specs.declared.places.Choice.{Choice}
use Rattle.ref_history.specs.declared.places.Place.{Place}

-- The place of the first entry after a base: its point, and how many refs and atoms there are before it.
abbrev pub first_place : Base → Place
first_place base = record { point = base.point + 1; refs = length base.refs; atoms = length base.atoms }

-- The place of the entry behind this one. A reference that was made has the next number of its kind.
abbrev pub place_after : Entry → Place → Place
place_after (Trans t) place = record { point = place.point + 1; refs = place.refs; atoms = place.atoms }
place_after (Atom a op answer) place = record { point = place.point + 1; refs = place.refs; atoms = place.atoms }
place_after (MadeRef v) place = record { point = place.point + 1; refs = place.refs + 1; atoms = place.atoms }
place_after (MadeAtom v) place = record { point = place.point + 1; refs = place.refs; atoms = place.atoms + 1 }

-- whether the entry has an operation on this ref, or made it
abbrev pub is_about_ref : Place → Entry → ℕ → Bool
is_about_ref place (Trans t) r = list_any (λ d. d.r == r) t.dones
is_about_ref place (Atom a op answer) r = false
is_about_ref place (MadeRef v) r = place.refs == r
is_about_ref place (MadeAtom v) r = false

abbrev pub is_about_atom : Place → Entry → ℕ → Bool
is_about_atom place (Trans t) n = false
is_about_atom place (Atom a op answer) n = a == n
is_about_atom place (MadeRef v) n = false
is_about_atom place (MadeAtom v) n = place.atoms == n

-- whether this worker committed it
abbrev pub is_by : Entry → ℕ → Bool
is_by (Trans t) worker = t.stamp.worker == worker
is_by (Atom a op answer) worker = false
is_by (MadeRef v) worker = false
is_by (MadeAtom v) worker = false

-- Nothing is asked, or the number meets what is asked of it.
abbrev pub meets : Option ℕ → (ℕ → Bool) → Bool
meets None test = true
meets (Some n) test = test n

-- An entry is chosen if it meets all that is asked.
abbrev pub is_chosen : Choice → Place → Entry → Bool
is_chosen choice place e =
    nat_le choice.from place.point && nat_le place.point choice.to
    && meets choice.about_ref (is_about_ref place e) && meets choice.about_atom (is_about_atom place e) && meets choice.by_worker (is_by e)
