-- The list that a chain of changes is.
use Rattle.std.specs.Prelude.{List, [], ◌∷◌}
use Rattle.ref_refs.specs.declared.late.Item.{Item}
use Rattle.ref_refs.specs.declared.late.Link.{Link}
use Rattle.ref_refs.specs.declared.late.Link.TheVariants.{End, To}

abbrev pub items_of : Link → List Item
items_of End = []
items_of (To b) = b.value.item ∷ b.value.older
