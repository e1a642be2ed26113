-- What a command writes that shows a dump.
use Rattle.std.specs.Prelude.{◌≡◌, ℕ, List, Option, Some, None, Result, Ok, Err}
use Rattle.ref_value.specs.Edn.{Edn}
use Rattle.ref_edn.specs.Grammar.{IsText}
use Rattle.ref_log.specs.declared.faults.AuditFault.{AuditFault}
use Rattle.ref_log.specs.declared.faults.AuditFault.TheVariants as replays
use Rattle.ref_forms.specs.Names.{NamesSeen}
use Rattle.ref_audit.specs.DumpForm.{dump_of}
use Rattle.ref_audit.specs.Report.{verdict_line}
use Rattle.ref_verdict.specs.declared.reading.dumps.Dump.{Dump}
use Rattle.ref_verdict.specs.declared.reports.Verdict.{Verdict}
use Rattle.ref_verdict.specs.declared.reports.Verdict.TheVariants as verdicts
use Rattle.ref_history.specs.Looks.{looked}
use Rattle.ref_history.specs.declared.looks.Look.{Look}

-- the verdict on a dump whose replay comes to this fault
abbrev pub verdict_of : AuditFault → Option Verdict
verdict_of (replays.NoSuch point) = Some (verdicts.NoSuch point)
verdict_of (replays.Refuses point) = Some (verdicts.Refuses point)
verdict_of (replays.Answer point) = Some (verdicts.Answer point)
verdict_of replays.Memory = None
verdict_of (replays.NoSuchFun code) = None

-- The text is the output; or the replay comes to a fault, and the output is the line of the verdict that says so.
abbrev pub Shows : Result (List ℕ) AuditFault → Verdict → List ℕ → Type 0
Shows (Ok text) verdict output = (verdict ≡ verdicts.Ok) × (output ≡ text)
Shows (Err fault) verdict output = (verdict_of fault ≡ Some verdict) × (output ≡ verdict_line verdict)

-- It does so with some verdict.
abbrev pub IsShown : Result (List ℕ) AuditFault → List ℕ → Type 0
IsShown looked output = (verdict : Verdict) × Shows looked verdict output

-- The text is a dump, and the output shows it, with these names of references.
pub record IsLookOf (names : NamesSeen) (look : Look) (verdict : Verdict) (text output : List ℕ) : Type 0 where
  pub value : Edn
  pub dump : Dump
  pub belongs : IsText text value
  pub says : dump_of value ≡ Ok dump
  pub shows : Shows (looked names look dump) verdict output

-- The text is a dump, of which a page was written. What is on the page no definition says.
pub record IsPageOf (text output : List ℕ) : Type 0 where
  pub value : Edn
  pub dump : Dump
  pub belongs : IsText text value
  pub says : dump_of value ≡ Ok dump

-- It does so with some verdict.
abbrev pub IsLook : NamesSeen → Look → List ℕ → List ℕ → Type 0
IsLook names look text output = (verdict : Verdict) × IsLookOf names look verdict text output
