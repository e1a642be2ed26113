-- What a command reads and writes, whatever it does between: it reads its input whole, and then writes one output.
use Rattle.std.specs.Prelude.{◌≡◌, ◌≢◌, ◌<◌, ◌≤◌, ℕ, List, length, Option, IfSome, Result, Ok, Err}
use Rattle.std.specs.Io.KnownBytes.{Appends, IsAtEnd}
use Rattle.ref_value.specs.Edn.{Edn}
use Rattle.ref_edn.specs.declared.faults.ReadFault.{ReadFault}
use Rattle.ref_edn.specs.declared.faults.ReadFault.TheVariants as reads
use Rattle.ref_edn.specs.Faults.{Answers}
use Rattle.ref_edn.specs.Reading.{all, one}
use Rattle.ref_edn.specs.Streams.{AppendsPart, counted}
use Rattle.ref_workload.specs.declared.faults.RunFault.{RunFault}
use Rattle.ref_workload.specs.declared.faults.RunFault.TheVariants as faults

-- how many bytes an input may have
abbrev pub most_input : ℕ
most_input = 16777216

-- What was left to read is all of a text, and nothing is left any more; and an output that this text gives was written
-- in this way.
pub record Wrote (Writes : Option (List ℕ) → Option (List ℕ) → List ℕ → Type 0) (Gives : List ℕ → List ℕ → Type 0) (before after old new : Option (List ℕ)) : Type 0 where
  pub text : List ℕ
  pub output : List ℕ
  pub whole : IfSome before (λ all. text ≡ all)
  pub at_end : IsAtEnd after
  pub short : length text ≤ most_input
  pub gives : Gives text output
  pub written : Writes old new output

-- The whole output was written.
abbrev pub HasWritten : (List ℕ → List ℕ → Type 0) → Option (List ℕ) → Option (List ℕ) → Option (List ℕ) → Option (List ℕ) → Type 0
HasWritten Gives before after old new = Wrote Appends Gives before after old new

-- The writer failed, and a part of the output was written, from its start on.
abbrev pub HasBrokenOff : (List ℕ → List ℕ → Type 0) → Option (List ℕ) → Option (List ℕ) → Option (List ℕ) → Option (List ℕ) → Type 0
HasBrokenOff Gives before after old new = Wrote AppendsPart Gives before after old new

-- The fault of a text that is to be one element, and of one of any number: the first from the left, with its place.
abbrev pub IsFaultOfOne : List ℕ → ReadFault → Type 0
IsFaultOfOne text fault = Answers {X = Edn} text (λ v. v) (Err fault) (one text)

abbrev pub IsFaultOfAll : List ℕ → ReadFault → Type 0
IsFaultOfAll text fault = Answers {X = List Edn} text (λ v. v) (Err fault) (all text)

-- A text belongs to no value, and this is its fault: `Belongs` says which texts belong to a value, and `IsFault` which fault a text has.
abbrev pub IsNotEdn : {T : Type 0} → (List ℕ → T → Type 0) → (List ℕ → ReadFault → Type 0) → List ℕ → ReadFault → Type 0
IsNotEdn {T = T} Belongs IsFault text fault = (fault ≢ reads.Memory) × ((value : T) → Belongs text value → ⊥) × IsFault text fault

-- what a fault of reading says of the text that was there to read
abbrev pub IsInputAtFault : {T : Type 0} → (List ℕ → T → Type 0) → (List ℕ → ReadFault → Type 0) → List ℕ → RunFault → Type 0
IsInputAtFault Belongs IsFault text faults.InputTooLong = most_input < length text
IsInputAtFault Belongs IsFault text (faults.NotEdn fault) = IsNotEdn Belongs IsFault text fault
IsInputAtFault Belongs IsFault text fault = Unit {0}

-- faults that come from the input before anything is asked of its text
abbrev pub IsOfInput : RunFault → Type 0
IsOfInput faults.Read = Unit {0}
IsOfInput faults.InputTooLong = Unit {0}
IsOfInput faults.Memory = Unit {0}
IsOfInput fault = ⊥

-- Read alone reports a read that failed.
abbrev pub CountsReads : {T : Type 0} → ℕ → ℕ → Result T RunFault → Type 0
CountsReads old new (Ok x) = new ≡ old
CountsReads old new (Err faults.Read) = new ≡ counted old
CountsReads old new (Err fault) = new ≡ old

-- Write alone reports a write that failed.
abbrev pub CountsWrites : {T : Type 0} → ℕ → ℕ → Result T RunFault → Type 0
CountsWrites old new (Ok x) = new ≡ old
CountsWrites old new (Err faults.Write) = new ≡ counted old
CountsWrites old new (Err fault) = new ≡ old
