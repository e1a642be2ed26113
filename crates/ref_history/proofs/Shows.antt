-- What is shown of a dump has no hidden character.
use Rattle.std.proofs.Common.{◌≡◌, ℕ, ◌+◌, true, if◌then◌else◌, List, [], ◌∷◌, ◌++◌, Result, Ok, Err, length, codes, decimal, refl, sym, ap, subst, ◌∙◌}
use Rattle.std.specs.Prelude.{slice_get}
use Rattle.ref_value.specs.Edn.{Edn}
use Rattle.ref_edn.specs.Printed.{printed}
use Rattle.ref_fun.specs.Core.{core_means}
use Rattle.ref_log.specs.Replay.{and_step, replay, state_of}
use Rattle.ref_log.specs.declared.entries.Entry.{Entry}
use Rattle.ref_log.specs.declared.faults.AuditFault.{AuditFault}
use Rattle.ref_log.specs.declared.states.PlainState.{PlainState}
use Rattle.ref_forms.specs.Names.{NamesSeen}
use Rattle.ref_verdict.specs.declared.reading.dumps.Dump.{Dump}
use Rattle.ref_history.proofs.Characters.{IsFine, fine_append, fine_if, fine_line, fine_nil}
use Rattle.ref_history.specs.Changes.{change_line, changes_from, entry_befores, entry_changes, line_between, text_after}
use Rattle.ref_history.specs.History.{chosen_from, count_line, entry_line, entry_text, lines_from}
use Rattle.ref_history.specs.Looks.{looked, values_said}
use Rattle.ref_history.specs.Places.{first_place, is_chosen, place_after}
use Rattle.ref_history.specs.Values.{end_line, name_or_number, value_line, value_lines, values_at}
use Rattle.ref_history.specs.Shown.{space}
use Rattle.ref_history.specs.Visible.{is_visible}
use Rattle.ref_history.specs.declared.looks.Look.{Look}
use Rattle.ref_history.specs.declared.looks.Look.TheVariants.{History, Changes, At}
use Rattle.ref_history.specs.declared.places.Choice.{Choice}
use Rattle.ref_history.specs.declared.places.Place.{Place}

fine_entry : (names : NamesSeen) (place : Place) (e : Entry) → IsFine (entry_line names place e)
fine_entry names place e = fine_line (decimal place.point ++ entry_text names place e)

fine_lines : (names : NamesSeen) (choice : Choice) (place : Place) (es : List Entry) → IsFine (lines_from names choice place es)
fine_lines names choice place [] = fine_nil
fine_lines names choice place (e ∷ es) =
    fine_append (if is_chosen choice place e then entry_line names place e else []) (lines_from names choice (place_after e place) es)
    (fine_if (is_chosen choice place e) (entry_line names place e) (fine_entry names place e))
    (fine_lines names choice (place_after e place) es)

fine_change : (names : NamesSeen) (place : Place) (e : Entry) (old new : PlainState) → IsFine (change_line names place e old new)
fine_change names place e old new = fine_line (decimal place.point ++ entry_changes names place e (entry_befores old e) new)

fine_between : (names : NamesSeen) (choice : Choice) (place : Place) (e : Entry) (old new : Result PlainState AuditFault) → IsFine (line_between names choice place e old new)
fine_between names choice place e (Ok old) (Ok new) = fine_if (is_chosen choice place e) (change_line names place e old new) (fine_change names place e old new)
fine_between names choice place e (Ok old) (Err fault) = fine_nil
fine_between names choice place e (Err fault) new = fine_nil

fine_changes : (names : NamesSeen) (choice : Choice) (place : Place) (es : List Entry) (state : Result PlainState AuditFault) → IsFine (changes_from names choice place es state)
fine_changes names choice place [] state = fine_nil
fine_changes names choice place (e ∷ es) state =
    fine_append (line_between names choice place e state (and_step core_means place.point e state)) (changes_from names choice (place_after e place) es (and_step core_means place.point e state))
    (fine_between names choice place e state (and_step core_means place.point e state))
    (fine_changes names choice (place_after e place) es (and_step core_means place.point e state))

fine_count : (entries chosen : ℕ) → IsFine (count_line entries chosen)
fine_count entries chosen = fine_line (codes "entries " ++ decimal entries ++ codes " chosen " ++ decimal chosen)

fine_value : (kind : List ℕ) (names : List (List ℕ)) (n : ℕ) (v : Edn) → IsFine (value_line kind names n v)
fine_value kind names n v = fine_line (kind ++ space ++ name_or_number n (slice_get names n) ++ space ++ printed v)

fine_values : (kind : List ℕ) (names : List (List ℕ)) (n : ℕ) (vs : List Edn) → IsFine (value_lines kind names n vs)
fine_values kind names n [] = fine_nil
fine_values kind names n (v ∷ vs) = fine_append (value_line kind names n v) (value_lines kind names (n + 1) vs) (fine_value kind names n v) (fine_values kind names (n + 1) vs)

fine_end : (point : ℕ) → IsFine (end_line point)
fine_end point = fine_line (codes "at " ++ decimal point ++ codes " ok")

-- ---- what is shown

abbrev text_in : Result (List ℕ) AuditFault → List ℕ
text_in (Ok text) = text
text_in (Err fault) = []

-- a text that is all that is shown
fine_said : (shown : Result (List ℕ) AuditFault) (said text : List ℕ) → IsFine said → shown ≡ Ok said → shown ≡ Ok text → is_visible text ≡ true
fine_said shown said text fine says is = subst (λ t. is_visible t ≡ true) (sym (ap text_in says) ∙ ap text_in is) fine.1

fine_after : (state : Result PlainState AuditFault) (said text : List ℕ) → IsFine said → text_after state said ≡ Ok text → is_visible text ≡ true
fine_after (Ok state) said text fine is = fine_said (text_after (Ok state) said) said text fine refl is
fine_after (Err fault) said text fine is = absurd cc

fine_state : (names : NamesSeen) (point : ℕ) (state : Result PlainState AuditFault) (text : List ℕ) → values_said names point state ≡ Ok text → is_visible text ≡ true
fine_state names point (Ok state) text is =
    let refs = value_lines (codes "ref") names.refs 0 state.refs in
    let atoms = value_lines (codes "atom") names.atoms 0 state.atoms in
    fine_said (values_said names point (Ok state)) (refs ++ atoms ++ end_line point) text
    (fine_append (refs ++ atoms) (end_line point)
    (fine_append refs atoms (fine_values (codes "ref") names.refs 0 state.refs) (fine_values (codes "atom") names.atoms 0 state.atoms)) (fine_end point))
    refl is
fine_state names point (Err fault) text is = absurd cc

pub fine_look : (names : NamesSeen) (look : Look) (dump : Dump) (text : List ℕ) → looked names look dump ≡ Ok text → is_visible text ≡ true
fine_look names (History choice) dump text is =
    let lines = lines_from names choice (first_place dump.base) dump.entries in
    let chosen = chosen_from choice (first_place dump.base) dump.entries in
    fine_said (looked names (History choice) dump) (lines ++ count_line (length dump.entries) chosen) text
    (fine_append lines (count_line (length dump.entries) chosen) (fine_lines names choice (first_place dump.base) dump.entries) (fine_count (length dump.entries) chosen))
    refl is
fine_look names (Changes choice) dump text is =
    let lines = changes_from names choice (first_place dump.base) dump.entries (Ok (state_of dump.base)) in
    let chosen = chosen_from choice (first_place dump.base) dump.entries in
    fine_after (replay core_means dump.base dump.entries) (lines ++ count_line (length dump.entries) chosen) text
    (fine_append lines (count_line (length dump.entries) chosen)
    (fine_changes names choice (first_place dump.base) dump.entries (Ok (state_of dump.base))) (fine_count (length dump.entries) chosen))
    is
fine_look names (At point) dump text is = fine_state names point (values_at dump point) text is
