-- What readers and writers report: how many reads or writes failed, and which bytes were taken.
use Rattle.std.specs.Prelude.{◌≡◌, ℕ, ◌+◌, ◌-◌, ◌^◌, ◌<◌, ◌≤◌, List, length, take, min, Option, Result, Ok, Err, MatchResult}
use Rattle.std.specs.Io.KnownBytes.{Appends, Consumes}
use Rattle.ref_edn.specs.declared.streams.InputFault.{InputFault}
use Rattle.ref_edn.specs.declared.streams.InputFault.TheVariants as faults

-- one failure more; the count stops at the greatest number of 64 bits
abbrev pub counted : ℕ → ℕ
counted n = min (n + 1) (2 ^ 64 - 1)

-- a call that fails is counted once, and one that doesn't is not
abbrev pub Counts : {T E : Type 0} → ℕ → ℕ → Result T E → Type 0
Counts old new r = MatchResult r (λ _. new ≡ old) (λ _. new ≡ counted old)

-- of what reading all of a source may return, only the fault Read reports a failure
abbrev pub CountsRead : {T : Type 0} → ℕ → ℕ → Result T InputFault → Type 0
CountsRead old new (Ok x) = new ≡ old
CountsRead old new (Err faults.Read) = new ≡ counted old
CountsRead old new (Err faults.TooLong) = new ≡ old
CountsRead old new (Err faults.Memory) = new ≡ old

-- known bytes lost at most n at their front
abbrev pub ConsumesUpTo : Option (List ℕ) → Option (List ℕ) → ℕ → Type 0
ConsumesUpTo old new n = (bs : List ℕ) × Consumes old new bs × (length bs ≤ n)

-- known bytes grew by some of bs, from its start on, and not by all of it
abbrev pub AppendsPart : Option (List ℕ) → Option (List ℕ) → List ℕ → Type 0
AppendsPart old new bs = (n : ℕ) × (n < length bs) × Appends old new (take n bs)
