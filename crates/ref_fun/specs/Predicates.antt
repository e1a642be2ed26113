-- The predicates. With another number of arguments, or arguments of another kind, a predicate accepts nothing.
use Rattle.std.specs.Prelude.{int_le, Bool, false, List, [], ◌∷◌}
use Rattle.std.specs.Ordering.{is_eq}
use Rattle.ref_value.specs.Edn.{Edn, int}
use Rattle.ref_value.specs.Order.{edn_cmp}

-- `>=` and `<=`: an integer of at least, or at most, the one argument
abbrev pub at_least : List Edn → Edn → Bool
at_least (int n ∷ []) (int m) = int_le n m
at_least args x = false

abbrev pub at_most : List Edn → Edn → Bool
at_most (int n ∷ []) (int m) = int_le m n
at_most args x = false

-- `=`: a value equal to the one argument; equal are those of which neither is before the other in the value order
abbrev pub equals : List Edn → Edn → Bool
equals (y ∷ []) x = is_eq (edn_cmp x y)
equals args x = false

-- `int?`, `string?`, `vector?`, `map?`, `set?` and `some?`: a value of that kind, without an argument
abbrev pub is_of_kind : (Edn → Bool) → List Edn → Edn → Bool
is_of_kind kind [] x = kind x
is_of_kind kind (y ∷ ys) x = false
