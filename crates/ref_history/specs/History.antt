-- The history of a dump: a line for each entry that is chosen, in order, and then how many entries there are and how many were chosen.
--
--   POINT WORKER STEP read POINT OPERATION -> ANSWER .. SEND ..     a transaction
--   POINT atom OPERATION -> ANSWER                                  a change of an atom
--   POINT made REFERENCE -> VALUE                                   the making of a ref or an atom
--   entries NUMBER chosen NUMBER
use Rattle.std.specs.Prelude.{ℕ, ◌+◌, if◌then◌else◌, List, [], ◌∷◌, ◌++◌, length, codes, decimal}
use Rattle.std.specs.List.{flat_map}
use Rattle.ref_value.specs.Edn.{Edn}
use Rattle.ref_edn.specs.Printed.{printed}
use Rattle.ref_log.specs.declared.entries.Entry.{Entry}
use Rattle.ref_log.specs.declared.entries.Entry.TheVariants.{Trans, Atom, MadeRef, MadeAtom}
use Rattle.ref_log.specs.declared.entries.Transaction.{Transaction}
use Rattle.ref_log.specs.declared.notices.Who.{Who}
use Rattle.ref_log.specs.declared.notices.Who.TheVariants as whos
use Rattle.ref_forms.specs.Names.{NamesSeen}
use Rattle.ref_verdict.specs.declared.reading.dumps.Dump.{Dump}
use Rattle.ref_history.specs.Places.{first_place, is_chosen, place_after}
use Rattle.ref_history.specs.Shown.{answered_text, arrow, atom_word, done_text, reference_text, send_text, space}
use Rattle.ref_history.specs.Visible.{line}
use Rattle.ref_history.specs.declared.places.Choice.{Choice}
use Rattle.ref_history.specs.declared.places.Place.{Place}

-- who committed a transaction, and at which point it began
abbrev pub stamp_text : Transaction → List ℕ
stamp_text t = space ++ decimal t.stamp.worker ++ space ++ decimal t.stamp.step ++ codes " read " ++ decimal t.read_point

abbrev pub transaction_text : NamesSeen → Transaction → List ℕ
transaction_text names t = stamp_text t ++ flat_map (done_text names) t.dones ++ flat_map (send_text names) t.sends

abbrev pub made_text : NamesSeen → Who → Edn → List ℕ
made_text names who v = codes " made " ++ reference_text names who ++ arrow ++ printed v

-- what stands behind the point of an entry
abbrev pub entry_text : NamesSeen → Place → Entry → List ℕ
entry_text names place (Trans t) = transaction_text names t
entry_text names place (Atom a op answer) = codes " atom " ++ answered_text (atom_word op) (reference_text names (whos.Atom a)) op answer
entry_text names place (MadeRef v) = made_text names (whos.Ref place.refs) v
entry_text names place (MadeAtom v) = made_text names (whos.Atom place.atoms) v

abbrev pub entry_line : NamesSeen → Place → Entry → List ℕ
entry_line names place e = line (decimal place.point ++ entry_text names place e)

-- The lines of these entries, as far as they are chosen, the first of which has this place.
abbrev pub lines_from : NamesSeen → Choice → Place → List Entry → List ℕ
lines_from names choice place [] = []
lines_from names choice place (e ∷ es) = (if is_chosen choice place e then entry_line names place e else []) ++ lines_from names choice (place_after e place) es

-- how many of them are chosen
abbrev pub chosen_from : Choice → Place → List Entry → ℕ
chosen_from choice place [] = 0
chosen_from choice place (e ∷ es) = (if is_chosen choice place e then 1 else 0) + chosen_from choice (place_after e place) es

abbrev pub count_line : ℕ → ℕ → List ℕ
count_line entries chosen = line (codes "entries " ++ decimal entries ++ codes " chosen " ++ decimal chosen)

abbrev pub history_text : NamesSeen → Choice → Dump → List ℕ
history_text names choice dump =
    lines_from names choice (first_place dump.base) dump.entries
    ++ count_line (length dump.entries) (chosen_from choice (first_place dump.base) dump.entries)
