-- How much of anything there may be.
use Rattle.std.specs.Prelude.{ℕ}

-- arguments of a call
abbrev pub most_arguments : ℕ
most_arguments = 8

-- sends that an action carries
abbrev pub most_carries : ℕ
most_carries = 8

-- functions of a table, and predicates
abbrev pub most_functions : ℕ
most_functions = 64

-- how many collections are open at most at the deepest place of what a function of Core gives
abbrev pub most_nested_result : ℕ
most_nested_result = 48
