-- Two maps as one.
use Rattle.std.specs.Prelude.{ℕ, ◌++◌}
use Rattle.std.specs.Ordering.{nat_cmp}
use Rattle.std.specs.FinMap.{FinMap, entries, empty, insert, from_entries}

module _ {V : Type 0} where
  -- the entries of both; where both have a key, the first map's
  abbrev pub joined : FinMap nat_cmp V → FinMap nat_cmp V → FinMap nat_cmp V
  joined m n = from_entries (entries m ++ entries n)

  -- the map with one entry
  abbrev pub single : ℕ → V → FinMap nat_cmp V
  single k v = insert empty k v
