-- How the items of a list with several owners are stored: a single one by itself, else as a list.
use Rattle.std.specs.Prelude.{List, [], ◌∷◌}
use Rattle.ref_fun.specs.declared.lists.Inside.{Inside}
use Rattle.ref_fun.specs.declared.lists.Inside.TheVariants.{Empty, One, Many}

abbrev pub items_in : {T : Type 0} → Inside T → List T
items_in Empty = []
items_in (One x) = x.value.item ∷ []
items_in (Many xs) = xs.value.items
