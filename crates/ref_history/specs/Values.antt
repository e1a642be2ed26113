-- The values of refs and atoms at a point: the replay of the entries up to it, written as in a report.
--
--   ref NAME VALUE      for each ref, then
--   atom NAME VALUE     for each atom, by number; the number stands for a name where it has none
--   at POINT ok         the end
use Rattle.std.specs.Prelude.{ℕ, ◌+◌, ◌-◌, nat_le, Bool, ◌&&◌, List, [], ◌∷◌, ◌++◌, take, Option, None, Some, slice_get, Result, codes, decimal}
use Rattle.ref_value.specs.Edn.{Edn}
use Rattle.ref_edn.specs.Printed.{printed}
use Rattle.ref_fun.specs.Core.{core_means}
use Rattle.ref_log.specs.Replay.{point_after, replay}
use Rattle.ref_log.specs.declared.faults.AuditFault.{AuditFault}
use Rattle.ref_log.specs.declared.states.PlainState.{PlainState}
use Rattle.ref_forms.specs.Names.{NamesSeen}
use Rattle.ref_verdict.specs.declared.reading.dumps.Dump.{Dump}
use Rattle.ref_history.specs.Shown.{shown_name, space}
use Rattle.ref_history.specs.Visible.{line}

-- whether the base or an entry has this point
abbrev pub has_point : Dump → ℕ → Bool
has_point dump point = nat_le dump.base.point point && nat_le point (point_after dump.base dump.entries)

-- The values after the entries up to this point, or the first fault on the way.
abbrev pub values_at : Dump → ℕ → Result PlainState AuditFault
values_at dump point = replay core_means dump.base (take (point - dump.base.point) dump.entries)

-- a name, or the number where there is none
abbrev pub name_or_number : ℕ → Option (List ℕ) → List ℕ
name_or_number n (Some name) = shown_name name
name_or_number n None = decimal n

-- a line of a report
abbrev pub value_line : List ℕ → List (List ℕ) → ℕ → Edn → List ℕ
value_line kind names n v = line (kind ++ space ++ name_or_number n (slice_get names n) ++ space ++ printed v)

-- those of all values of a kind, the first of which has this number
abbrev pub value_lines : List ℕ → List (List ℕ) → ℕ → List Edn → List ℕ
value_lines kind names n [] = []
value_lines kind names n (v ∷ vs) = value_line kind names n v ++ value_lines kind names (n + 1) vs

abbrev pub end_line : ℕ → List ℕ
end_line point = line (codes "at " ++ decimal point ++ codes " ok")

abbrev pub values_text : NamesSeen → ℕ → PlainState → List ℕ
values_text names point state = value_lines (codes "ref") names.refs 0 state.refs ++ value_lines (codes "atom") names.atoms 0 state.atoms ++ end_line point
