-- What is told of a dump before any memory is taken is its first fault.
use Rattle.std.proofs.Common.{◌≡◌, ◌≢◌, Bool, true, false, not, cond, List, Option, None, Some, Result, Ok, Err, IfErr, IfOk, refl, sym, ap, ◌∙◌}
use Rattle.std.specs.Prelude.{is_some, ok_or, option_and_then}
use Rattle.ref_value.specs.Edn.{Edn, entries_of, pairs_of, pairs_of-entries_of}
use Rattle.ref_value.specs.Edn as edn
use Rattle.ref_log.specs.Told.{AnswersOrMemory}
use Rattle.ref_forms.specs.Plain.{all_said, elements_of, list_said, number_of}
use Rattle.ref_forms.specs.Plain.{under}
use Rattle.ref_verdict.specs.DumpForm.{agent_of, dump_of, key_word, misfit, part_said, parts_said, parts_unless, version_of}
use Rattle.ref_verdict.specs.Early.{fault_of_parts, first_fault, is_said, parts_fault}
use Rattle.ref_verdict.specs.Verdict.{verdict, verdict_on}
use Rattle.ref_verdict.specs.declared.reading.dumps.Dump.{Dump}
use Rattle.ref_verdict.specs.declared.reading.dumps.Version.{Version}
use Rattle.ref_verdict.specs.declared.reports.Verdict.{Verdict}
use Rattle.ref_verdict.specs.declared.reading.faults.DumpFault.{DumpFault}
use Rattle.ref_verdict.specs.declared.reading.faults.DumpFault.TheVariants.{BadPart, Memory}
use Rattle.ref_verdict.specs.declared.reading.faults.Key.{Key}
use Rattle.ref_verdict.specs.declared.reading.faults.Key.TheVariants as keys

pub first_fault_map : (es : List (Edn × Edn)) → first_fault (edn.map (entries_of es)) ≡ fault_of_parts (misfit es) es
first_fault_map es = ap (λ fs. fault_of_parts (misfit fs) fs) (pairs_of-entries_of es)

-- ---- the first parts

none_said : {A : Type 0} (o : Option A) (key : Key) → is_some o ≡ false → ok_or o (BadPart key) ≡ Err (BadPart key)
none_said None key e = refl
none_said (Some x) key e = absurd cc

some_said : {A : Type 0} (o : Option A) (key : Key) → is_some o ≡ true → (x : A) × (ok_or o (BadPart key) ≡ Ok x)
some_said None key e = absurd cc
some_said (Some x) key e = (x, refl)

no_elements : (version : Version) (o : Option (List Edn)) → is_some o ≡ false → is_some (option_and_then (all_said (agent_of version)) o) ≡ false
no_elements version None e = refl
no_elements version (Some xs) e = absurd cc

no_list : (version : Version) (o : Option Edn) → is_some (option_and_then elements_of o) ≡ false → is_some (option_and_then (list_said (agent_of version)) o) ≡ false
no_list version None e = refl
no_list version (Some x) e = no_elements version (elements_of x) e

same_fault : (f g : DumpFault) → Some f ≡ Some g → f ≡ g
same_fault f g e = cc

bad_isnt_memory : (key : Key) (fault : DumpFault) → BadPart key ≡ fault → fault ≢ Memory
bad_isnt_memory key fault is = λ memory. cc

by_parts : (version : Version) (es : List (Edn × Edn)) (a b : Bool) (fault : DumpFault) → is_said es keys.Added number_of ≡ a → is_said es keys.Agents elements_of ≡ b
    → cond (not a) (Some (BadPart keys.Added)) (cond (not b) (Some (BadPart keys.Agents)) None) ≡ Some fault → (parts_said version es ≡ Err fault) × (fault ≢ Memory)
by_parts version es false b fault p q e =
    let is = same_fault (BadPart keys.Added) fault e in
    let added : part_said es keys.Added number_of ≡ Err (BadPart keys.Added) = none_said (option_and_then number_of (under es (key_word keys.Added))) keys.Added p in
    ((rw added refl) ∙ ap Err is, bad_isnt_memory keys.Added fault is)
by_parts version es true false fault p q e =
    let is = same_fault (BadPart keys.Agents) fault e in
    let added = some_said (option_and_then number_of (under es (key_word keys.Added))) keys.Added p in
    let agents : part_said es keys.Agents (list_said (agent_of version)) ≡ Err (BadPart keys.Agents) =
    none_said (option_and_then (list_said (agent_of version)) (under es (key_word keys.Agents))) keys.Agents (no_list version (under es (key_word keys.Agents)) q) in
    ((rw (added.1, agents) refl) ∙ ap Err is, bad_isnt_memory keys.Agents fault is)
by_parts version es true true fault p q e = absurd cc

pub parts_told : (version : Version) (es : List (Edn × Edn)) (fault : DumpFault) → parts_fault es ≡ Some fault → (parts_said version es ≡ Err fault) × (fault ≢ Memory)
parts_told version es fault e = by_parts version es (is_said es keys.Added number_of) (is_said es keys.Agents elements_of) fault refl refl e

-- ---- a value that is a dump

no_parts_fault : (version : Version) (o : Option DumpFault) (es : List (Edn × Edn)) (dump : Dump) → parts_fault es ≡ o → parts_said version es ≡ Ok dump → o ≡ None
no_parts_fault version None es dump p e = refl
no_parts_fault version (Some fault) es dump p e = let told = (parts_told version es fault p).0 in absurd cc

no_fault : (wrong : Option DumpFault) (es : List (Edn × Edn)) (dump : Dump) → parts_unless wrong es ≡ Ok dump → fault_of_parts wrong es ≡ None
no_fault None es dump e = no_parts_fault (version_of es) (parts_fault es) es dump refl e
no_fault (Some fault) es dump e = absurd cc

no_first_fault : (value : Edn) (dump : Dump) → dump_of value ≡ Ok dump → first_fault value ≡ None
no_first_fault (edn.map es) dump e = no_fault (misfit (pairs_of es)) (pairs_of es) dump e
no_first_fault value dump e = absurd cc

-- The verdict on what it says is that on it.
pub verdict_told : (value : Edn) (dump : Dump) (result : Result Verdict DumpFault) → dump_of value ≡ Ok dump → IfOk result (λ v. v ≡ verdict dump) → IfErr result (λ f. f ≡ Memory)
    → AnswersOrMemory Memory (first_fault value) (verdict_on (dump_of value)) result
verdict_told value dump (Ok v) reads ok err = ap verdict_on reads ∙ ap Ok (sym ok)
verdict_told value dump (Err fault) reads ok err = ((λ other. absurd (other err)), (λ is. no_first_fault value dump reads))
