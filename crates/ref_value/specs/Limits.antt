-- How deep data may be.
use Rattle.std.specs.Prelude.{ℕ}

-- how many collections are open at most at the deepest place of a value
abbrev pub most_nested : ℕ
most_nested = 64
