-- The column behind one more byte.
use Rattle.std.proofs.Common.{◌≡◌, ℕ, ◌+◌, ◌<◌, List, drop, drop-cons, add-one, get_or, length, refl}
use Rattle.ref_explain.specs.Places.{column_from, next_column}

pub column_from_at : (column : ℕ) (text : List ℕ) (i : ℕ) → i < length text
    → column_from column (drop i text) ≡ column_from (next_column column (get_or text i 0)) (drop (i + 1) text)
column_from_at column text i h = rw (add-one, drop-cons text i 0) refl
