-- What the verdict on a text's value and the faults of an audit say.
use Rattle.std.proofs.Common.{◌≡◌, ◌∙◌, ℕ, List, Option, Some, None, sym, ap, subst, arith}
use Rattle.std.specs.Prelude.{◌≢◌, Result, Ok, Err, IfErr, IfSome, IsErrAnd}
use Rattle.ref_value.specs.Edn.{Edn}
use Rattle.ref_edn.specs.Grammar.{IsText}
use Rattle.ref_edn.specs.declared.faults.ReadFault.{ReadFault}
use Rattle.ref_workload.specs.Streams.{IsFaultOfOne}
use Rattle.ref_edn.specs.declared.faults.ReadFault.TheVariants as reads
use Rattle.ref_audit.specs.DumpForm.{dump_of}
use Rattle.ref_audit.specs.Report.{verdict_line}
use Rattle.ref_audit.specs.Verdict.{verdict, verdict_on}
use Rattle.ref_verdict.specs.declared.reading.dumps.Dump.{Dump}
use Rattle.ref_verdict.specs.declared.reading.faults.DumpFault.{DumpFault}
use Rattle.ref_verdict.specs.declared.reading.faults.DumpFault.TheVariants as dumps
use Rattle.ref_verdict.specs.declared.reports.Verdict.{Verdict}
use Rattle.refrun.specs.Auditing.{IsAtFault, IsAuditOf, dump_fault_of, edn_fault_of}
use Rattle.refrun.specs.declared.faults.AuditRunFault.{AuditRunFault}

-- what is no dump has no verdict
no_dump : (d : Result Dump DumpFault) (f : DumpFault) → verdict_on d ≡ Err f → d ≡ Err f
no_dump (Ok dump) f e = absurd (grind (arith, e))
no_dump (Err g) f e = let same : g ≡ f = cc in ap Err same

-- a verdict is that on a dump
pub audit_told : (text : List ℕ) (v : Edn) (line : List ℕ) (w : Verdict) (d : Result Dump DumpFault) → d ≡ dump_of v → verdict_on d ≡ Ok w → IsText text v → line ≡ verdict_line w → IsAuditOf w text line
audit_told text v line w (Ok dump) is e belongs line_is =
    let same : verdict dump ≡ w = cc in
    record { value = v; dump = dump; belongs = belongs; says = sym is; verdict_is = sym same; output_is = line_is }
audit_told text v line w (Err f) is e belongs line_is = absurd (grind (arith, e))

not_edn : (text : List ℕ) (f : ReadFault) → (f ≢ reads.Memory → (v : Edn) → IsText text v → ⊥) → IsFaultOfOne text f → (most : ℕ) → IsAtFault most text (edn_fault_of f)
not_edn text reads.Memory none is most = tt
not_edn text f none is most = (λ e. cc, none (λ e. cc), is)

not_dump : (text : List ℕ) (v : Edn) (f : DumpFault) → IsText text v → (f ≢ dumps.Memory → dump_of v ≡ Err f) → (most : ℕ) → IsAtFault most text (dump_fault_of f)
not_dump text v dumps.Memory is none most = tt
not_dump text v f is none most = (λ e. cc, (v, is, none (λ e. cc)))

-- what a call that hands on such a fault answers
pub edn_told : {T : Type 0} (r : Result T AuditRunFault) (text : List ℕ) (f : ReadFault) → IsErrAnd r (λ g. g ≡ edn_fault_of f) → (f ≢ reads.Memory → (v : Edn) → IsText text v → ⊥) → IsFaultOfOne text f → IfErr r (λ g. (most : ℕ) → IsAtFault most text g)
edn_told (Ok x) text f told none is = tt
edn_told (Err g) text f told none is = rw told (not_edn text f none is)

pub unread_told : {T : Type 0} (r : Result T AuditRunFault) (text : List ℕ) (v : Edn) (f : DumpFault) → IsErrAnd r (λ g. g ≡ dump_fault_of f) → IsText text v → (f ≢ dumps.Memory → dump_of v ≡ Err f) → IfErr r (λ g. (most : ℕ) → IsAtFault most text g)
unread_told (Ok x) text v f told is none = tt
unread_told (Err g) text v f told is none = rw told (not_dump text v f is none)

pub dump_told : {T : Type 0} (r : Result T AuditRunFault) (text : List ℕ) (v : Edn) (f : DumpFault) → IsErrAnd r (λ g. g ≡ dump_fault_of f) → IsText text v → (f ≢ dumps.Memory → verdict_on (dump_of v) ≡ Err f) → IfErr r (λ g. (most : ℕ) → IsAtFault most text g)
dump_told r text v f told is none = unread_told r text v f told is (λ other. no_dump (dump_of v) f (none other))

-- what a call answers that hands on a fault of the text that was read
pub read_told : {T : Type 0} (r : Result T AuditRunFault) (f : AuditRunFault) (most : ℕ) (text input : List ℕ) (left : Option (List ℕ)) → IsErrAnd r (λ g. g ≡ f) → text ≡ input
    → IfSome left (λ all. input ≡ all) → ((m : ℕ) → IsAtFault m text f) → IfErr r (λ g. IfSome left (λ t. IsAtFault most t g))
read_told (Ok x) f most text input left told same all fault = tt
read_told (Err g) f most text input None told same all fault = tt
read_told (Err g) f most text input (Some t) told same all fault = rw told (subst (λ (x : List ℕ). IsAtFault most x f) (same ∙ all) (fault most))
