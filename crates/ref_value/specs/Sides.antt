-- On which side of a tree a key is looked for.
use Rattle.std.specs.Prelude.{Bool, true, List, [], ◌∷◌}
use Rattle.std.specs.Ordering.{is_lt}
use Rattle.ref_value.specs.Edn.{Edn}
use Rattle.ref_value.specs.Order.{edn_cmp}

-- The first stands behind a key, or there is none; where the keys ascend, all stand behind it then.
abbrev pub are_behind : List (Edn × Edn) → Edn → Bool
are_behind [] k = true
are_behind (e ∷ es) k = is_lt (edn_cmp k e.0)
