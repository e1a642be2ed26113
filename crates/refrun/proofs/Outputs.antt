-- What is left of what is shown of a dump.
use Rattle.std.proofs.Common.{◌≡◌, ℕ, List, Option, Ok, inl, inr, refl, subst, sym}
use Rattle.std.specs.Prelude.{Result}
use Rattle.ref_log.specs.declared.faults.AuditFault.{AuditFault}
use Rattle.ref_verdict.specs.declared.reports.Verdict.TheVariants as verdicts
use Rattle.ref_history.specs.Written.{IsLeft, IsLooked}
use Rattle.ref_history.specs.declared.faults.LookFault.TheVariants as looks
use Rattle.ref_output.specs.Pieces.{WritesIn}
use Rattle.ref_output.specs.declared.faults.OutputFault.{OutputFault}
use Rattle.ref_output.specs.declared.faults.OutputFault.TheVariants as outputs
use Rattle.refrun.specs.Auditing.{IsLeftOf, output_fault_of}
use Rattle.refrun.specs.Looking.{IsShown, Shows}

shows_text : (looked : Result (List ℕ) AuditFault) (text : List ℕ) → IsLooked looked text → Shows looked verdicts.Ok text
shows_text looked text is = subst (λ (r : Result (List ℕ) AuditFault). Shows r verdicts.Ok text) (sym is) (refl, refl)

shown_as : {Writes : Option (List ℕ) → Option (List ℕ) → List ℕ → Type 0} (looked : Result (List ℕ) AuditFault) (a b : Option (List ℕ)) → WritesIn Writes (IsLooked looked) a b → WritesIn Writes (IsShown looked) a b
shown_as looked a b w = record { output = w.output; is_one = (verdicts.Ok, shows_text looked w.output w.is_one); written = w.written }

pub shown_left : (looked : Result (List ℕ) AuditFault) (f : OutputFault) (a b : Option (List ℕ)) → IsLeft looked (looks.Output f) a b → IsLeftOf (IsShown looked) (output_fault_of f) a b
shown_left looked outputs.Write a b w = (shown_as looked a b w)
shown_left looked outputs.Memory a b (inl same) = inl same
shown_left looked outputs.Memory a b (inr w) = inr (shown_as looked a b w)
