-- One turn of the loops over entries, and their end.
use Rattle.std.proofs.Common.{◌≡◌, ◌∙◌, ℕ, ◌+◌, List, [], ◌∷◌, ◌++◌, Bool, Ok, ap, sym, if◌then◌else◌, arith}
use Rattle.ref_fun.specs.Core.{core_means}
use Rattle.ref_log.specs.Replay.{step}
use Rattle.ref_log.specs.declared.entries.Entry.{Entry}
use Rattle.ref_log.specs.declared.states.PlainState.{PlainState}
use Rattle.ref_forms.specs.Names.{NamesSeen}
use Rattle.ref_history.specs.Changes.{change_line, changes_from, line_between}
use Rattle.ref_history.specs.History.{chosen_from}
use Rattle.ref_history.specs.Places.{is_chosen, place_after}
use Rattle.ref_history.specs.declared.places.Choice.{Choice}
use Rattle.ref_history.specs.declared.places.Place.{Place}

pub count_turn : (choice : Choice) (place : Place) (e : Entry) (es rest : List Entry) (count next all : ℕ) → rest ≡ e ∷ es
    → count + chosen_from choice place rest ≡ all → next ≡ (if is_chosen choice place e then 1 else 0) + count
    → next + chosen_from choice (place_after e place) es ≡ all
count_turn choice place e es rest count next all is so_far more =
    let first : chosen_from choice place rest ≡ (if is_chosen choice place e then 1 else 0) + chosen_from choice (place_after e place) es = ap (chosen_from choice place) is in
    omega (arith, first, so_far, more)

pub count_end : (choice : Choice) (place : Place) (rest : List Entry) (count all : ℕ) → rest ≡ [] → count + chosen_from choice place rest ≡ all → count ≡ all
count_end choice place rest count all none so_far =
    let no : chosen_from choice place rest ≡ 0 = ap (chosen_from choice place) none in
    omega (arith, no, so_far)

-- The changes of the entries that are left begin with the line of the first one, if it is chosen.
pub changes_turn : (names : NamesSeen) (choice : Choice) (place : Place) (e : Entry) (es rest : List Entry) (old new : PlainState) (chosen : Bool) → rest ≡ e ∷ es
    → step core_means place.point e old ≡ Ok new → chosen ≡ is_chosen choice place e
    → changes_from names choice place rest (Ok old)
    ≡ (if chosen then change_line names place e old new else []) ++ changes_from names choice (place_after e place) es (Ok new)
changes_turn names choice place e es rest old new chosen is stepped same =
    ap (λ (es : List Entry). changes_from names choice place es (Ok old)) is
    ∙ ap (λ r. line_between names choice place e (Ok old) r ++ changes_from names choice (place_after e place) es r) stepped
    ∙ ap (λ (b : Bool). (if b then change_line names place e old new else []) ++ changes_from names choice (place_after e place) es (Ok new)) (sym same)
