-- What a node is as EDN data.
use Rattle.std.specs.Prelude.{List, [], ◌∷◌}
use Rattle.ref_value.specs.Edn.{Edn, nil, boolean, int, string, keyword, symbol, vector, map, set, items_of, entries_of}
use Rattle.ref_value.specs.declared.data.Node.{Node}
use Rattle.ref_value.specs.declared.data.Node.TheVariants.{Nil, Bool, Int, Str, Keyword, Symbol, Vector, Map, Set, ShortStr, ShortKeyword, ShortSymbol}

abbrev pub edn : Node → Edn
edn Nil = nil
edn (Bool b) = boolean b
edn (Int n) = int n
edn (Str s) = string s
edn (Keyword s) = keyword s
edn (Symbol s) = symbol s
edn (Vector xs) = vector (items_of xs)
edn (Map es) = map (entries_of es)
edn (Set xs) = set (items_of xs)
edn (ShortStr s) = string s
edn (ShortKeyword s) = keyword s
edn (ShortSymbol s) = symbol s

-- what the only node of a value is
abbrev pub edn_of_one : List Node → Edn
edn_of_one [] = nil
edn_of_one (n ∷ ns) = edn n
