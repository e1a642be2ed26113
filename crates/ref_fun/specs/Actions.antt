-- What an action needs of a table of functions, and of the agents that are there.
use Rattle.std.specs.Prelude.{ℕ, Bool, not, nat_lt, List, ◌∷◌, Option, find, map}
use Rattle.ref_fun.specs.declared.actions.Action.{Action}

-- The codes of its functions: its own, and then those of what it carries, in order.
abbrev pub codes_of : Action → List ℕ
codes_of action = action.code ∷ map (λ c. c.code) action.carries

-- The agents that get something where it is sent to g: g, and then those of what it carries, in order.
abbrev pub receivers : ℕ → Action → List ℕ
receivers g action = g ∷ map (λ c. c.g) action.carries

-- The first of its codes that a table doesn't know.
abbrev pub missing_fun : (ℕ → Bool) → Action → Option ℕ
missing_fun knows action = find (λ code. not (knows code)) (codes_of action)

-- The first of these agents that isn't one of so many.
abbrev pub absent_agent : ℕ → ℕ → Action → Option ℕ
absent_agent agents g action = find (λ h. not (nat_lt h agents)) (receivers g action)
