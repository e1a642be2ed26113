-- What a command does with its input, and the status that the program ends with.
use Rattle.std.specs.Prelude.{◌≡◌, ◌≢◌, ◌==◌, ◌⊎◌, ℕ, Bool, true, if◌then◌else◌, List, [], ◌∷◌, Option, IfSome, Result, Ok, Err, IfOk, IfErr}
use Rattle.std.specs.List.{list_any}
use Rattle.std.specs.declared.io.ErrorKind.{ErrorKind as IoErrorKind}
use Rattle.std.specs.declared.io.ErrorKind.TheVariants as io_kinds
use Rattle.clap.specs.declared.error.kind.ErrorKind.{ErrorKind}
use Rattle.clap.specs.declared.error.kind.ErrorKind.TheVariants as kinds
use Rattle.ref_verdict.specs.declared.reports.Verdict.{Verdict}
use Rattle.ref_verdict.specs.declared.reports.Verdict.TheVariants as verdicts
use Rattle.ref_forms.specs.Names.{NamesSeen}
use Rattle.ref_workload.specs.Run as runs
use Rattle.ref_workload.specs.Streams as streams
use Rattle.ref_workload.specs.declared.faults.RunFault.TheVariants as run_faults
use Rattle.refrun.specs.Checking as checks
use Rattle.refrun.specs.Inputs as inputs
use Rattle.refrun.specs.Lines.{status_of}
use Rattle.refrun.specs.Printing as prints
use Rattle.refrun.specs.Tasks.{IsDone, IsFaultOf, IsLeft, most_of_task}
use Rattle.refrun.specs.declared.commands.Request.{Request}
use Rattle.refrun.specs.declared.commands.Request.TheVariants.{ByCore, Check, Print}
use Rattle.refrun.specs.declared.commands.Wanted.{Wanted}
use Rattle.refrun.specs.declared.faults.Fault.{Fault}
use Rattle.refrun.specs.declared.faults.Fault.TheVariants.{Run}

-- how many bytes an input of this request may have
abbrev pub most_of_request : Request → ℕ
most_of_request (ByCore task) = most_of_task task
most_of_request Check = streams.most_input
most_of_request (Print is_large) = inputs.most_of is_large

-- The whole output of a request was written. What was left to read and what was written are named before and after.
abbrev pub IsRequestDone : NamesSeen → Request → Verdict → Option (List ℕ) → Option (List ℕ) → Option (List ℕ) → Option (List ℕ) → Type 0
IsRequestDone names (ByCore task) verdict before after old new = IsDone names task verdict before after old new
IsRequestDone names Check verdict before after old new = (verdict ≡ verdicts.Ok) × streams.HasWritten checks.IsCheckOf before after old new
IsRequestDone names (Print is_large) verdict before after old new =
    (verdict ≡ verdicts.Ok) × inputs.HasWritten (inputs.most_of is_large) prints.IsPrintOf before after old new

-- The fault is one of this request, and the text that was there to read is at fault if it says so.
abbrev pub IsFaultOfRequest : Request → Option (List ℕ) → Fault → Type 0
IsFaultOfRequest (ByCore task) before fault = IsFaultOf task before fault
IsFaultOfRequest Check before (Run fault) = checks.IsOfChecking fault × IfSome before (λ text. runs.IsAtFault text fault)
IsFaultOfRequest (Print is_large) before (Run fault) = prints.IsOfPrinting fault
    × IfSome before (λ text. prints.IsAtFault (inputs.most_of is_large) text fault)
IsFaultOfRequest request before fault = ⊥

-- What a fault leaves: if the writer failed, a part of the output was written, from its start on; for lack of memory, nothing or a
-- beginning of it, where it is written while it is made; and before any other fault, nothing.
abbrev pub IsLeftByRequest : NamesSeen → Request → Fault → Option (List ℕ) → Option (List ℕ) → Option (List ℕ) → Option (List ℕ) → Type 0
IsLeftByRequest names (ByCore task) fault before after old new = IsLeft names task fault before after old new
IsLeftByRequest names Check (Run fault) before after old new =
    (fault ≡ run_faults.Write → streams.HasBrokenOff checks.IsCheckOf before after old new) × (fault ≢ run_faults.Write → new ≡ old)
IsLeftByRequest names (Print is_large) (Run fault) before after old new =
    (fault ≡ run_faults.Write → inputs.HasBrokenOff (inputs.most_of is_large) prints.IsPrintOf before after old new)
    × (fault ≡ run_faults.Memory → (new ≡ old) ⊎ inputs.HasBegun (inputs.most_of is_large) prints.IsPrintOf before after old new)
    × (fault ≢ run_faults.Write → fault ≢ run_faults.Memory → new ≡ old)
IsLeftByRequest names request fault before after old new = ⊥

-- the status after a verdict: 7 if a step that was refused is to show, and 5 for an audit that says no
abbrev pub verdict_status : Bool → Verdict → ℕ
verdict_status shows verdicts.Ok = if shows then 7 else 0
verdict_status shows verdict = 5

abbrev pub status_after : Bool → Result Verdict Fault → ℕ
status_after shows (Ok verdict) = verdict_status shows verdict
status_after shows (Err fault) = status_of fault

-- The program did what was wanted, or met a fault, and ends with the status of that.
pub record Ends (names : NamesSeen) (wanted : Wanted) (before after old new : Option (List ℕ)) (status : ℕ) : Type 0 where
  pub done : Result Verdict Fault
  pub ok : IfOk done (λ verdict. IsRequestDone names wanted.request verdict before after old new)
  pub fault : IfErr done (λ fault. IsFaultOfRequest wanted.request before fault)
  pub left : IfErr done (λ fault. IsLeftByRequest names wanted.request fault before after old new)
  -- Whether a step that was refused is to show. Only a strict run shows it.
  pub shows : Bool
  pub strict : shows ≡ true → wanted.is_strict ≡ true
  pub status_is : status ≡ status_after shows done

-- The same of some names, reader and writer.
abbrev pub CanEnd : Wanted → ℕ → Type 0
CanEnd wanted status = (names : NamesSeen) × (before after old new : Option (List ℕ)) × Ends names wanted before after old new status

-- The status if the arguments can't be had: one of them isn't UTF-8, or there is no memory for them.
abbrev pub EndsAtArguments : IoErrorKind → ℕ → Type 0
EndsAtArguments io_kinds.OutOfMemory status = status ≡ 6
EndsAtArguments kind status = status ≡ 2

-- The status if the parser of the command line refuses the words, or prints help or the version.
abbrev pub EndsAtWords : ErrorKind → ℕ → Type 0
EndsAtWords kinds.OutOfMemory status = status ≡ 6
EndsAtWords kinds.DisplayHelp status = (status ≡ 0) ⊎ (status ≡ 4)
EndsAtWords kinds.DisplayVersion status = (status ≡ 0) ⊎ (status ≡ 4)
EndsAtWords kind status = status ≡ 2

abbrev pub is_early : ℕ → Bool
is_early status = list_any (λ n. n == status) (0 ∷ 2 ∷ 3 ∷ 4 ∷ 6 ∷ [])

-- The program ends before a command is carried out, or by one. It does so with status 3 if the names that are given are in no workload.
abbrev pub IsEnd : ℕ → Type 0
IsEnd status = (is_early status ≡ true) ⊎ ((wanted : Wanted) × CanEnd wanted status)
