-- The history of a dump by its changes: in place of the operations of an entry stand the references that it touched, each once, in the
-- order in which it first did, with the value before the entry and the value after it.
--
--   POINT WORKER STEP read POINT REFERENCE OLD -> NEW .. SEND ..     a transaction
--   POINT atom REFERENCE OLD -> NEW                                  a change of an atom
--   POINT made REFERENCE -> VALUE                                    the making of a ref or an atom
--   entries NUMBER chosen NUMBER
--
-- There is none if the replay of the entries comes to a fault.
use Rattle.std.specs.Prelude.{ℕ, ◌||◌, if◌then◌else◌, List, [], ◌∷◌, ◌++◌, length, Option, None, Some, slice_get, Result, Ok, Err, codes, decimal}
use Rattle.std.specs.List.{flat_map}
use Rattle.ref_value.specs.Edn.{Edn}
use Rattle.ref_edn.specs.Printed.{printed}
use Rattle.ref_fun.specs.Core.{core_means}
use Rattle.ref_forms.specs.References.{of_kind}
use Rattle.ref_forms.specs.declared.kinds.Kind.{Kind}
use Rattle.ref_forms.specs.declared.kinds.Kind.TheVariants as kinds
use Rattle.ref_log.specs.Replay.{and_step, is_ensure, is_touched, replay, state_of}
use Rattle.ref_log.specs.declared.entries.Entry.{Entry}
use Rattle.ref_log.specs.declared.entries.Entry.TheVariants.{Trans, Atom, MadeRef, MadeAtom}
use Rattle.ref_log.specs.declared.faults.AuditFault.{AuditFault}
use Rattle.ref_log.specs.declared.notices.Who.TheVariants as whos
use Rattle.ref_log.specs.declared.operations.Done.{Done}
use Rattle.ref_log.specs.declared.states.PlainState.{PlainState}
use Rattle.ref_forms.specs.Names.{NamesSeen}
use Rattle.ref_verdict.specs.declared.reading.dumps.Dump.{Dump}
use Rattle.ref_history.specs.History.{chosen_from, count_line, made_text, stamp_text}
use Rattle.ref_history.specs.Places.{first_place, is_chosen, place_after}
use Rattle.ref_history.specs.Shown.{arrow, reference_text, send_text, space, spaced}
use Rattle.ref_history.specs.Visible.{line}
use Rattle.ref_history.specs.declared.befores.Before.{Before}
use Rattle.ref_history.specs.declared.places.Choice.{Choice}
use Rattle.ref_history.specs.declared.places.Place.{Place}

-- a reference with its value, if it is there
abbrev pub before_of : ℕ → Option Edn → List Before
before_of n None = []
before_of n (Some v) = record { number = n; old = v } ∷ []

-- The refs that these operations touch, each with its value, in the order in which they first do, but for those that earlier ones touch.
abbrev pub befores_from : List Edn → List Done → List Done → List Before
befores_from values earlier [] = []
befores_from values earlier (d ∷ ds) =
    (if is_ensure d.op || is_touched earlier d.r then [] else before_of d.r (slice_get values d.r))
    ++ befores_from values (earlier ++ d ∷ []) ds

-- ` REFERENCE OLD -> NEW`
abbrev pub change_text : List ℕ → Edn → Option Edn → List ℕ
change_text reference old None = []
change_text reference old (Some new) = space ++ reference ++ spaced old ++ arrow ++ printed new

-- a reference of a kind that was touched, by the values after
abbrev pub change_of : NamesSeen → Kind → List Edn → Before → List ℕ
change_of names kind after b = change_text (reference_text names (of_kind kind b.number)) b.old (slice_get after b.number)

-- what an entry touches
abbrev pub entry_befores : PlainState → Entry → List Before
entry_befores old (Trans t) = befores_from old.refs [] t.dones
entry_befores old (Atom a op answer) = before_of a (slice_get old.atoms a)
entry_befores old (MadeRef v) = []
entry_befores old (MadeAtom v) = []

-- what stands behind the point of an entry, by what it touched and the values after it
abbrev pub entry_changes : NamesSeen → Place → Entry → List Before → PlainState → List ℕ
entry_changes names place (Trans t) befores new = stamp_text t ++ flat_map (change_of names kinds.Ref new.refs) befores ++ flat_map (send_text names) t.sends
entry_changes names place (Atom a op answer) befores new = codes " atom" ++ flat_map (change_of names kinds.Atom new.atoms) befores
entry_changes names place (MadeRef v) befores new = made_text names (whos.Ref place.refs) v
entry_changes names place (MadeAtom v) befores new = made_text names (whos.Atom place.atoms) v

abbrev pub change_line : NamesSeen → Place → Entry → PlainState → PlainState → List ℕ
change_line names place e old new = line (decimal place.point ++ entry_changes names place e (entry_befores old e) new)

-- the line of an entry, if it is chosen and has values before and after it
abbrev pub line_between : NamesSeen → Choice → Place → Entry → Result PlainState AuditFault → Result PlainState AuditFault → List ℕ
line_between names choice place e (Ok old) (Ok new) = if is_chosen choice place e then change_line names place e old new else []
line_between names choice place e old new = []

-- The lines of these entries, the first of which has this place and these values before it.
abbrev pub changes_from : NamesSeen → Choice → Place → List Entry → Result PlainState AuditFault → List ℕ
changes_from names choice place [] state = []
changes_from names choice place (e ∷ es) state =
    line_between names choice place e state (and_step core_means place.point e state)
    ++ changes_from names choice (place_after e place) es (and_step core_means place.point e state)

-- A text of a replay that comes to its end.
abbrev pub text_after : Result PlainState AuditFault → List ℕ → Result (List ℕ) AuditFault
text_after (Ok state) text = Ok text
text_after (Err fault) text = Err fault

-- the lines of a dump whose replay comes to its end
abbrev pub all_changes : NamesSeen → Choice → Dump → List ℕ
all_changes names choice dump =
    changes_from names choice (first_place dump.base) dump.entries (Ok (state_of dump.base))
    ++ count_line (length dump.entries) (chosen_from choice (first_place dump.base) dump.entries)

abbrev pub changes_text : NamesSeen → Choice → Dump → Result (List ℕ) AuditFault
changes_text names choice dump = text_after (replay core_means dump.base dump.entries) (all_changes names choice dump)
