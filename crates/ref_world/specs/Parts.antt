-- How many parts the shares of a world have.
use Rattle.std.specs.Prelude.{ℕ}

-- how many parts all shares of a world have
abbrev pub all_parts : ℕ
all_parts = 4294967296
