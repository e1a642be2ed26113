-- What the audit of a dump's text reads, writes and answers.
use Rattle.std.specs.Prelude.{◌≡◌, ◌≢◌, ◌<◌, ℕ, false, List, length, Option, Result, Ok, Err}
use Rattle.ref_value.specs.Edn.{Edn}
use Rattle.ref_edn.specs.Grammar.{IsText}
use Rattle.ref_edn.specs.Streams.{counted}
use Rattle.ref_edn.specs.declared.faults.ReadFault.{ReadFault}
use Rattle.ref_edn.specs.declared.faults.ReadFault.TheVariants as reads
use Rattle.ref_audit.specs.DumpForm.{dump_of}
use Rattle.ref_audit.specs.Report.{verdict_line}
use Rattle.ref_audit.specs.Verdict as verdicts
use Rattle.ref_verdict.specs.declared.reading.dumps.Dump.{Dump}
use Rattle.ref_verdict.specs.declared.reading.faults.DumpFault.{DumpFault}
use Rattle.ref_verdict.specs.declared.reading.faults.DumpFault.TheVariants as dumps
use Rattle.ref_verdict.specs.declared.reports.Verdict.{Verdict}
use Rattle.ref_history.specs.Values.{has_point}
use Rattle.ref_output.specs.Pieces.{WritesFront, WritesPart}
use Rattle.ref_output.specs.declared.faults.OutputFault.{OutputFault}
use Rattle.ref_output.specs.declared.faults.OutputFault.TheVariants as outputs
use Rattle.ref_workload.specs.Streams.{IsFaultOfOne, IsNotEdn}
use Rattle.refrun.specs.declared.faults.AuditRunFault.{AuditRunFault}
use Rattle.refrun.specs.declared.faults.AuditRunFault.TheVariants as faults

-- The text is a dump, this is the verdict on it, and the output is the verdict's line.
pub record IsAuditOf (verdict : Verdict) (text output : List ℕ) : Type 0 where
  pub value : Edn
  pub dump : Dump
  pub belongs : IsText text value
  pub says : dump_of value ≡ Ok dump
  pub verdict_is : verdict ≡ verdicts.verdict dump
  pub output_is : output ≡ verdict_line verdict

-- It is such an audit with some verdict.
abbrev pub IsAudit : List ℕ → List ℕ → Type 0
IsAudit text output = (verdict : Verdict) × IsAuditOf verdict text output

-- what a fault says of the text that was there to read, of which so many bytes are allowed
abbrev pub IsAtFault : ℕ → List ℕ → AuditRunFault → Type 0
IsAtFault most text faults.InputTooLong = most < length text
IsAtFault most text (faults.NotEdn fault) = IsNotEdn IsText IsFaultOfOne text fault
IsAtFault most text (faults.Dump fault) = (fault ≢ dumps.Memory) × ((value : Edn) × IsText text value × (dump_of value ≡ Err fault))
IsAtFault most text (faults.NoPoint point) = (value : Edn) × (dump : Dump) × IsText text value × (dump_of value ≡ Ok dump) × (has_point dump point ≡ false)
IsAtFault most text fault = Unit {0}

-- Faults that come from the input before anything is asked of its text, those of a text, and those of a text that is shown and of its output.
abbrev pub IsOfInput : AuditRunFault → Type 0
IsOfInput faults.Read = Unit {0}
IsOfInput faults.InputTooLong = Unit {0}
IsOfInput faults.Memory = Unit {0}
IsOfInput fault = ⊥

abbrev pub IsOfText : AuditRunFault → Type 0
IsOfText (faults.NotEdn fault) = Unit {0}
IsOfText (faults.Dump fault) = Unit {0}
IsOfText faults.Memory = Unit {0}
IsOfText fault = ⊥

abbrev pub IsOfShown : AuditRunFault → Type 0
IsOfShown (faults.NoPoint point) = Unit {0}
IsOfShown faults.Write = Unit {0}
IsOfShown fault = IsOfText fault

-- the fault of the command for a fault of its text, and of its value
abbrev pub edn_fault_of : ReadFault → AuditRunFault
edn_fault_of reads.Memory = faults.Memory
edn_fault_of fault = faults.NotEdn fault

abbrev pub dump_fault_of : DumpFault → AuditRunFault
dump_fault_of dumps.Memory = faults.Memory
dump_fault_of fault = faults.Dump fault

-- and for one of its output
abbrev pub output_fault_of : OutputFault → AuditRunFault
output_fault_of outputs.Write = faults.Write
output_fault_of outputs.Memory = faults.Memory

-- What a fault leaves of an output of this kind: if the writer failed, a part of it; for lack of memory, nothing or a beginning of it; and
-- before any other fault, nothing.
abbrev pub IsLeftOf : (List ℕ → Type 0) → AuditRunFault → Option (List ℕ) → Option (List ℕ) → Type 0
IsLeftOf IsOne faults.Write old new = WritesPart IsOne old new
IsLeftOf IsOne faults.Memory old new = WritesFront IsOne old new
IsLeftOf IsOne fault old new = new ≡ old

-- Read alone reports a read that failed, and Write alone a write that failed.
abbrev pub CountsReads : {T : Type 0} → ℕ → ℕ → Result T AuditRunFault → Type 0
CountsReads old new (Ok x) = new ≡ old
CountsReads old new (Err faults.Read) = new ≡ counted old
CountsReads old new (Err fault) = new ≡ old

abbrev pub CountsWrites : {T : Type 0} → ℕ → ℕ → Result T AuditRunFault → Type 0
CountsWrites old new (Ok x) = new ≡ old
CountsWrites old new (Err faults.Write) = new ≡ counted old
CountsWrites old new (Err fault) = new ≡ old
