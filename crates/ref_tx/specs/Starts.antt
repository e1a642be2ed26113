-- What a transaction that is closed holds of the values that it began with: those of the refs that its operations protect.
use Rattle.std.specs.Prelude.{◌≡◌, ℕ, zero, suc, false, if◌then◌else◌, List, Option, None, Some, slice_get}
use Rattle.ref_value.specs.Edn.{Edn}
use Rattle.ref_log.specs.Replay.{is_commute}
use Rattle.ref_log.specs.declared.operations.Done.{Done}

-- what the ref of an operation began with, where the operation protects it
abbrev pub start_in : List Edn → Done → Option Edn
start_in began d = if is_commute d.op then None else slice_get began d.r

-- the same of an operation that may be missing
abbrev pub start_of : List Edn → Option Done → Option Edn
start_of began None = None
start_of began (Some d) = start_in began d

abbrev pub flat : Option (Option Edn) → Option Edn
flat None = None
flat (Some start) = start

-- what is kept for the operation of a number: for the first two in places of their own, for the others in a list
abbrev pub kept_at : Option Edn → Option Edn → List (Option Edn) → ℕ → Option Edn
kept_at first second others zero = first
kept_at first second others (suc zero) = second
kept_at first second others (suc (suc i)) = flat (slice_get others i)

-- What is kept for an operation that protects its ref is what the ref began with.
pub record HasStarts (began : List Edn) (start_at : ℕ → ℕ → Option Edn) (dones : List Done) : Type 0 where
  pub starts : (i : ℕ) (d : Done) → slice_get dones i ≡ Some d → is_commute d.op ≡ false → start_at i d.r ≡ slice_get began d.r
