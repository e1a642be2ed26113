-- The names of the references of a world.
use Rattle.std.specs.Prelude.{ℕ, List}

-- of refs, atoms and agents, each by number
pub record NamesSeen : Type 0 where
  pub refs : List (List ℕ)
  pub atoms : List (List ℕ)
  pub agents : List (List ℕ)
