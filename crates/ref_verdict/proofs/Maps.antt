-- A map's entries as a list.
use Rattle.std.proofs.Common.{◌≡◌, ◌≢◌, Bool, true, false, not, cond, List, None, Some, ap}
use Rattle.ref_value.specs.Edn.{Edn, entries_of, pairs_of-entries_of}
use Rattle.ref_value.specs.Edn as edn
use Rattle.ref_value.specs.Edn.{pairs_of}
use Rattle.ref_forms.specs.Plain.{under}
use Rattle.ref_verdict.specs.DumpForm.{dump_of, has_keys, is_version, misfit, parts_unless, version_of}
use Rattle.ref_verdict.specs.Words.{dump_key}
use Rattle.ref_verdict.specs.declared.reading.faults.DumpFault.{DumpFault}
use Rattle.ref_verdict.specs.declared.reading.faults.DumpFault.TheVariants.{BadVersion, Memory, NotDump}

pub dump_of_map : (es : List (Edn × Edn)) → dump_of (edn.map (entries_of es)) ≡ parts_unless (misfit es) es
dump_of_map es = ap (λ fs. parts_unless (misfit fs) fs) (pairs_of-entries_of es)

one_of_two : (a b : Bool) (fault : DumpFault) → cond (not a) (Some NotDump) (cond (not b) (Some BadVersion) None) ≡ Some fault → fault ≢ Memory
one_of_two true true fault e = absurd cc
one_of_two true false fault e = λ is. cc
one_of_two false b fault e = λ is. cc

-- neither keys nor version say that memory is refused
pub misfit_told : (es : List (Edn × Edn)) (fault : DumpFault) → misfit es ≡ Some fault → fault ≢ Memory
misfit_told es fault e = one_of_two (has_keys (version_of es) es) (is_version (version_of es) (under es dump_key)) fault e
