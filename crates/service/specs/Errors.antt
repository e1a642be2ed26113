-- What counts as an error.
use Rattle.std.specs.Prelude.{ℕ}
use Rattle.ref_agents.specs.declared.ends.Finished.{Finished}
use Rattle.ref_agents.specs.declared.ends.Finished.TheVariants.{Changed, Failed, Continued}

-- how many errors it is that an action ended like this
abbrev pub errors_in : Finished → ℕ
errors_in (Changed notices) = 0
errors_in (Failed error) = 1
errors_in (Continued error) = 1
