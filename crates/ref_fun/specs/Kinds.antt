-- The kinds of values.
use Rattle.std.specs.Prelude.{Bool, true, false}
use Rattle.ref_value.specs.Edn.{Edn, nil, int, string, vector, map, set}

abbrev pub is_int : Edn → Bool
is_int (int n) = true
is_int x = false

abbrev pub is_string : Edn → Bool
is_string (string s) = true
is_string x = false

abbrev pub is_vector : Edn → Bool
is_vector (vector xs) = true
is_vector x = false

abbrev pub is_map : Edn → Bool
is_map (map es) = true
is_map x = false

abbrev pub is_set : Edn → Bool
is_set (set xs) = true
is_set x = false

-- everything but nil
abbrev pub is_not_nil : Edn → Bool
is_not_nil nil = false
is_not_nil x = true
