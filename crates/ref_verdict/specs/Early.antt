-- Which faults of a dump are found before any memory is taken: those of its keys and its version, that its first part is no number, and
-- that its second one is no list.
use Rattle.std.specs.Prelude.{Bool, not, if◌then◌else◌, List, Option, None, Some, is_some, option_and_then}
use Rattle.ref_value.specs.Edn.{Edn, pairs_of}
use Rattle.ref_value.specs.Edn as edn
use Rattle.ref_forms.specs.Plain.{elements_of, number_of}
use Rattle.ref_forms.specs.Plain.{under}
use Rattle.ref_verdict.specs.DumpForm.{early_fault, key_word}
use Rattle.ref_verdict.specs.declared.reading.faults.DumpFault.{DumpFault}
use Rattle.ref_verdict.specs.declared.reading.faults.DumpFault.TheVariants.{BadPart}
use Rattle.ref_verdict.specs.declared.reading.faults.Key.{Key}
use Rattle.ref_verdict.specs.declared.reading.faults.Key.TheVariants as keys

-- whether what stands under a key says something
abbrev pub is_said : {A : Type 0} → List (Edn × Edn) → Key → (Edn → Option A) → Bool
is_said es key said = is_some (option_and_then said (under es (key_word key)))

abbrev pub parts_fault : List (Edn × Edn) → Option DumpFault
parts_fault es =
    if not (is_said es keys.Added number_of) then Some (BadPart keys.Added) else
    if not (is_said es keys.Agents elements_of) then Some (BadPart keys.Agents) else
    None

abbrev pub fault_of_parts : Option DumpFault → List (Edn × Edn) → Option DumpFault
fault_of_parts (Some fault) es = Some fault
fault_of_parts None es = parts_fault es

abbrev pub first_fault : Edn → Option DumpFault
first_fault (edn.map es) = fault_of_parts (early_fault (edn.map es)) (pairs_of es)
first_fault x = early_fault x
