-- A list of single members as a list of pairs, and back: both kinds of collection stand in one kind of tree.
use Rattle.std.specs.Prelude.{◌≡◌, List, [], ◌∷◌}
use Rattle.ref_value.specs.Edn.{Edn}

-- each value, as a pair with itself
abbrev pub twins : List Edn → List (Edn × Edn)
twins [] = []
twins (x ∷ xs) = (x, x) ∷ twins xs

-- the first of each pair
abbrev pub singles : List (Edn × Edn) → List Edn
singles [] = []
singles (e ∷ es) = e.0 ∷ singles es

-- Each pair is a value with itself.
abbrev pub AreTwins : List (Edn × Edn) → Type 0
AreTwins [] = Unit {0}
AreTwins (e ∷ es) = (e.0 ≡ e.1) × AreTwins es
