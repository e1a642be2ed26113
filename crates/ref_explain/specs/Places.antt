-- Lines and columns of a text, of the place behind some bytes.
use Rattle.std.specs.Prelude.{ℕ, ◌+◌, suc, Bool, List, [], ◌∷◌, ◌==◌, ◌&&◌, cond, count_by, nat_le, nat_lt}

-- one, and the newlines before
abbrev pub line_at : List ℕ → ℕ
line_at before = count_by (λ b. b == 10) before + 1

-- Bytes from 128 to 191 go on in a character that began before.
abbrev pub goes_on : ℕ → Bool
goes_on b = nat_le 128 b && nat_lt b 192

abbrev pub next_column : ℕ → ℕ → ℕ
next_column column b = cond (b == 10) 1 (cond (goes_on b) column (suc column))

-- one, and the characters behind the last newline, after a column and further bytes
abbrev pub column_from : ℕ → List ℕ → ℕ
column_from column [] = column
column_from column (b ∷ bs) = column_from (next_column column b) bs

abbrev pub column_at : List ℕ → ℕ
column_at before = column_from 1 before
