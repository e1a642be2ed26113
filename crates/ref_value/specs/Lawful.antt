-- Which EDN data is a value: integers of 64 bits, texts in UTF-8, names that are names, keys and elements in value
-- order with none equal to another, and at most 64 collections open at the deepest place.
use Rattle.std.specs.Prelude.{◌≤◌, IsTrue, IsUtf8, FitsSigned}
use Rattle.std.specs.Int.{w64}
use Rattle.ref_value.specs.Edn.{Edn, nil, boolean, int, string, keyword, symbol, vector, map, set, Items, no_items, item, Entries, no_entries, entry, nesting}
use Rattle.ref_value.specs.Names.{is_keyword, is_symbol}
use Rattle.ref_value.specs.Order.{elements_ascend, keys_ascend}
use Rattle.ref_value.specs.Limits.{most_nested}

abbrev mutual
  pub HasLawfulParts : Edn → Type 0
  HasLawfulParts nil = Unit {0}
  HasLawfulParts (boolean b) = Unit {0}
  HasLawfulParts (int n) = FitsSigned w64 n
  HasLawfulParts (string s) = IsUtf8 s
  HasLawfulParts (keyword s) = IsTrue (is_keyword s)
  HasLawfulParts (symbol s) = IsTrue (is_symbol s)
  HasLawfulParts (vector xs) = AreLawful xs
  HasLawfulParts (map es) = AreLawfulEntries es × IsTrue (keys_ascend es)
  HasLawfulParts (set xs) = AreLawful xs × IsTrue (elements_ascend xs)

  pub AreLawful : Items → Type 0
  AreLawful no_items = Unit {0}
  AreLawful (item x xs) = HasLawfulParts x × AreLawful xs

  pub AreLawfulEntries : Entries → Type 0
  AreLawfulEntries no_entries = Unit {0}
  AreLawfulEntries (entry k x es) = HasLawfulParts k × HasLawfulParts x × AreLawfulEntries es

-- A value.
pub record IsLawful (x : Edn) : Type 0 where
  pub parts : HasLawfulParts x
  pub shallow : nesting x ≤ most_nested
