-- What is written of an output while it is made.
use Rattle.std.specs.Prelude.{◌≡◌, ◌⊎◌, ◌≤◌, ℕ, List, ◌++◌, length, take, Option, Result, Ok, Err}
use Rattle.std.specs.Io.KnownBytes.{Appends}
use Rattle.ref_edn.specs.Streams.{AppendsPart, counted}
use Rattle.ref_output.specs.declared.faults.OutputFault.{OutputFault}
use Rattle.ref_output.specs.declared.faults.OutputFault.TheVariants.{Write, Memory}

-- The front of an output was written, and this remains of it.
pub record Remains (old new : Option (List ℕ)) (output rest : List ℕ) : Type 0 where
  pub front : List ℕ
  pub output_is : output ≡ front ++ rest
  pub appended : Appends old new front

-- Known bytes grew by some of bs, from its start on, or by all of it.
abbrev pub AppendsFront : Option (List ℕ) → Option (List ℕ) → List ℕ → Type 0
AppendsFront old new bs = (n : ℕ) × (n ≤ length bs) × Appends old new (take n bs)

-- What a fault leaves of an output: a beginning of it was written, and if the writer failed, not all of it.
abbrev pub BreaksOff : OutputFault → Option (List ℕ) → Option (List ℕ) → List ℕ → Type 0
BreaksOff Write old new output = AppendsPart old new output
BreaksOff Memory old new output = AppendsFront old new output

-- An output of this kind was written in this way.
pub record WritesIn (Writes : Option (List ℕ) → Option (List ℕ) → List ℕ → Type 0) (IsOne : List ℕ → Type 0) (old new : Option (List ℕ)) : Type 0 where
  pub output : List ℕ
  pub is_one : IsOne output
  pub written : Writes old new output

-- All of it was written.
abbrev pub WritesOne : (List ℕ → Type 0) → Option (List ℕ) → Option (List ℕ) → Type 0
WritesOne IsOne old new = WritesIn Appends IsOne old new

-- A part of it was written, from its start on, but not all of it.
abbrev pub WritesPart : (List ℕ → Type 0) → Option (List ℕ) → Option (List ℕ) → Type 0
WritesPart IsOne old new = WritesIn AppendsPart IsOne old new

-- Nothing was written, or a beginning of it.
abbrev pub WritesFront : (List ℕ → Type 0) → Option (List ℕ) → Option (List ℕ) → Type 0
WritesFront IsOne old new = (new ≡ old) ⊎ WritesIn AppendsFront IsOne old new

-- Write alone reports a write that failed.
abbrev pub CountsWrites : {T : Type 0} → ℕ → ℕ → Result T OutputFault → Type 0
CountsWrites old new (Ok x) = new ≡ old
CountsWrites old new (Err Write) = new ≡ counted old
CountsWrites old new (Err Memory) = new ≡ old
