-- What is in a value.
use Rattle.std.specs.Prelude.{ℕ, ℤ, Option, None, Some, length}
use Rattle.ref_value.specs.Collections.{value_at}
use Rattle.ref_value.specs.Edn.{Edn, int, vector, map, set, list_of, pairs_of}

-- the integer that a value is
abbrev pub int_in : Edn → Option ℤ
int_in (int n) = Some n
int_in x = None

-- what a map has for a key, as Clojure's `get`
abbrev pub got : Edn → Edn → Option Edn
got (map es) key = value_at (pairs_of es) key
got x key = None

-- how many members a collection has, as Clojure's `count`
abbrev pub counted : Edn → ℕ
counted (vector xs) = length (list_of xs)
counted (map es) = length (pairs_of es)
counted (set xs) = length (list_of xs)
counted x = 0
