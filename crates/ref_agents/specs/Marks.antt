-- Marks, numbered from 0: for a private type.
use Rattle.std.specs.Prelude.{◌≡◌, ◌≤◌, ◌<◌, ◌*◌, ◌/◌, ℕ, Bool, true, false, List, length, get_or}

-- whether the mark of a number is set; there is none behind the last
abbrev pub is_set : List Bool → ℕ → Bool
is_set marks i = get_or marks i false

-- None of the numbers from one on, before another, is set.
abbrev pub AreClear : List Bool → ℕ → ℕ → Type 0
AreClear marks first end = (i : ℕ) → first ≤ i → i < end → is_set marks i ≡ false

-- Each mark has a block, and where it is set, so is that of the block.
abbrev pub HaveBlocks : List Bool → List Bool → Type 0
HaveBlocks marks blocks = (length marks ≤ 1024 * length blocks) × ((i : ℕ) → is_set marks i ≡ true → is_set blocks (i / 1024) ≡ true)
