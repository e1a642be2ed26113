-- What is written of a dump that is shown.
use Rattle.std.specs.Prelude.{◌≡◌, ◌≢◌, ℕ, List, Option, Result, Ok, Err}
use Rattle.std.specs.Io.KnownBytes.{Appends}
use Rattle.ref_log.specs.declared.faults.AuditFault.{AuditFault}
use Rattle.ref_log.specs.declared.faults.AuditFault.TheVariants as replays
use Rattle.ref_output.specs.Pieces as outputs
use Rattle.ref_output.specs.Pieces.{BreaksOff, WritesFront, WritesPart}
use Rattle.ref_output.specs.declared.faults.OutputFault.{OutputFault}
use Rattle.ref_output.specs.declared.faults.OutputFault.TheVariants.{Write, Memory}
use Rattle.ref_history.specs.declared.faults.LookFault.{LookFault}
use Rattle.ref_history.specs.declared.faults.LookFault.TheVariants.{Replay, Output}

-- the text of what is shown
abbrev pub IsLooked : Result (List ℕ) AuditFault → List ℕ → Type 0
IsLooked looked text = looked ≡ Ok text

-- What a fault leaves: after that of the replay, nothing; if the writer failed, a part of the text; and for lack of memory, nothing or a
-- beginning of it.
abbrev pub IsLeft : Result (List ℕ) AuditFault → LookFault → Option (List ℕ) → Option (List ℕ) → Type 0
IsLeft looked (Replay fault) old new = (looked ≡ Err fault) × (fault ≢ replays.Memory) × (new ≡ old)
IsLeft looked (Output Write) old new = WritesPart (IsLooked looked) old new
IsLeft looked (Output Memory) old new = WritesFront (IsLooked looked) old new

-- the fault of a look for one of the replay
abbrev pub replay_fault_of : AuditFault → LookFault
replay_fault_of replays.Memory = Output Memory
replay_fault_of fault = Replay fault

-- Some bytes were written, and where it breaks off, a beginning of some.
abbrev pub Draws : Option (List ℕ) → Option (List ℕ) → Type 0
Draws old new = (page : List ℕ) × Appends old new page

abbrev pub DrawsPart : OutputFault → Option (List ℕ) → Option (List ℕ) → Type 0
DrawsPart fault old new = (page : List ℕ) × BreaksOff fault old new page

-- Write alone reports a write that failed.
abbrev pub CountsLook : {T : Type 0} → ℕ → ℕ → Result T LookFault → Type 0
CountsLook old new (Ok x) = new ≡ old
CountsLook old new (Err (Replay fault)) = new ≡ old
CountsLook {T = T} old new (Err (Output fault)) = outputs.CountsWrites {T = T} old new (Err fault)
