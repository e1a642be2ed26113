-- What the walk through a map shows.
use Rattle.std.specs.Prelude.{ℕ, List, map}
use denote.Bor.{Bor}

-- the entries with what their references point to
abbrev pub shown : {V : Type 0} → List (ℕ × Bor V) → List (ℕ × V)
shown es = map (λ e. (e.0, e.1.now)) es
