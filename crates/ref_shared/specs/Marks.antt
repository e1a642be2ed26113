-- Marks on the entries of a log, which say whose receipt was met.
use Rattle.std.specs.Prelude.{◌≡◌, ℕ, Bool, true, false, Some, List, slice_get, slice_index_or}
use Rattle.ref_log.specs.declared.entries.Entry.{Entry}
use Rattle.ref_shared.specs.Gather.{has_receipt}

-- At i an entry stands that has a receipt, and isn't marked.
pub record Fits (log : List Entry) (met : List Bool) (i : ℕ) : Type 0 where
  pub e : Entry
  pub here : slice_get log i ≡ Some e
  pub due : has_receipt e ≡ true
  pub new : slice_index_or met i false ≡ false

-- Each entry that has a receipt is marked.
abbrev pub AllMarked : List Entry → List Bool → Type 0
AllMarked log met = (i : ℕ) (e : Entry) → slice_get log i ≡ Some e → has_receipt e ≡ true → slice_index_or met i false ≡ true
