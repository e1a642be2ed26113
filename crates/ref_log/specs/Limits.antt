-- How much there may be.
use Rattle.std.specs.Prelude.{ℕ, ◌^◌}

-- the last point of a log
abbrev pub last_point : ℕ
last_point = 2 ^ 62

-- There is an entry for each point.
abbrev pub most_entries : ℕ
most_entries = last_point

-- how many refs there are at most, how many atoms, and how many agents
abbrev pub most_references : ℕ
most_references = 2 ^ 20
