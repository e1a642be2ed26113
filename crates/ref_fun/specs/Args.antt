-- How arguments are stored: one in place, else as a list.
use Rattle.std.specs.Prelude.{List, [], ◌∷◌}
use Rattle.ref_value.specs.Edn.{Edn}
use Rattle.ref_fun.specs.declared.arguments.Held.{Held}
use Rattle.ref_fun.specs.declared.arguments.Held.TheVariants.{One, Listed}

abbrev pub held : Held → List Edn
held (One v) = v ∷ []
held (Listed vs) = vs
