-- The depth of the deepest member, as a tree stores it next to its members.
use Rattle.std.specs.Prelude.{ℕ, ◌≡◌, ◌≤◌, List}
use Rattle.ref_value.specs.Edn.{Edn, entries_of, entries_depth}
use Rattle.ref_value.specs.Lawful.{AreLawfulEntries}
use Rattle.ref_value.specs.Limits.{most_nested}

pub record IsDeepestEntry (deepest : ℕ) (es : List (Edn × Edn)) : Type 0 where
  pub value : deepest ≡ entries_depth (entries_of es)
  pub bound : deepest ≤ most_nested
  pub lawful : AreLawfulEntries (entries_of es)
