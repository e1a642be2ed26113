-- Inputs that may be large, and what is written of them.
use Rattle.std.specs.Prelude.{◌≡◌, ◌≤◌, ℕ, Bool, true, false, List, length, Option, IfSome}
use Rattle.std.specs.Io.KnownBytes.{Appends, IsAtEnd}
use Rattle.ref_edn.specs.Streams.{AppendsPart}
use Rattle.ref_output.specs.Pieces.{AppendsFront}
use Rattle.ref_workload.specs.Streams.{most_input}

-- how many bytes an input may have with --large
abbrev pub most_large : ℕ
most_large = 4294967296

-- how many bytes an input may have
abbrev pub most_of : Bool → ℕ
most_of true = most_large
most_of false = most_input

-- What was left to read is all of a text of at most so many bytes, and nothing is left any more; and an output that this text gives was
-- written in this way.
pub record Wrote (most : ℕ) (Writes : Option (List ℕ) → Option (List ℕ) → List ℕ → Type 0) (Gives : List ℕ → List ℕ → Type 0) (before after old new : Option (List ℕ)) : Type 0 where
  pub text : List ℕ
  pub output : List ℕ
  pub whole : IfSome before (λ all. text ≡ all)
  pub at_end : IsAtEnd after
  pub short : length text ≤ most
  pub gives : Gives text output
  pub written : Writes old new output

-- The whole output was written.
abbrev pub HasWritten : ℕ → (List ℕ → List ℕ → Type 0) → Option (List ℕ) → Option (List ℕ) → Option (List ℕ) → Option (List ℕ) → Type 0
HasWritten most Gives before after old new = Wrote most Appends Gives before after old new

-- The writer failed, and a part of the output was written, from its start on.
abbrev pub HasBrokenOff : ℕ → (List ℕ → List ℕ → Type 0) → Option (List ℕ) → Option (List ℕ) → Option (List ℕ) → Option (List ℕ) → Type 0
HasBrokenOff most Gives before after old new = Wrote most AppendsPart Gives before after old new

-- A beginning of the output was written, or all of it.
abbrev pub HasBegun : ℕ → (List ℕ → List ℕ → Type 0) → Option (List ℕ) → Option (List ℕ) → Option (List ℕ) → Option (List ℕ) → Type 0
HasBegun most Gives before after old new = Wrote most AppendsFront Gives before after old new
