-- The value order: by kind, and within a kind by content.
use Rattle.std.specs.Prelude.{ℕ, Bool, true, ◌&&◌}
use Rattle.std.specs.declared.cmp.Ordering.{Ordering}
use Rattle.std.specs.declared.cmp.Ordering.TheVariants.{Less, Equal, Greater}
use Rattle.std.specs.Ordering.{is_lt, nat_cmp, int_cmp, bool_cmp, ordering_then}
use Rattle.std.specs.Cmp.Lexicographic.{slice_cmp}
use Rattle.ref_value.specs.Edn.{Edn, nil, boolean, int, string, keyword, symbol, vector, map, set, Items, no_items, item, Entries, no_entries, entry}

-- The kinds stand in this order.
abbrev pub rank : Edn → ℕ
rank nil = 0
rank (boolean b) = 1
rank (int n) = 2
rank (string s) = 3
rank (keyword s) = 4
rank (symbol s) = 5
rank (vector xs) = 6
rank (map es) = 7
rank (set xs) = 8

-- False stands before true, integers by size, texts by their bytes. Collections compare place by place, and one that
-- begins another stands before it; an entry compares by its key, then by its value.
abbrev mutual
  pub edn_cmp : Edn → Edn → Ordering
  edn_cmp nil nil = Equal
  edn_cmp (boolean a) (boolean b) = bool_cmp a b
  edn_cmp (int a) (int b) = int_cmp a b
  edn_cmp (string a) (string b) = slice_cmp nat_cmp a b
  edn_cmp (keyword a) (keyword b) = slice_cmp nat_cmp a b
  edn_cmp (symbol a) (symbol b) = slice_cmp nat_cmp a b
  edn_cmp (vector a) (vector b) = items_cmp a b
  edn_cmp (map a) (map b) = entries_cmp a b
  edn_cmp (set a) (set b) = items_cmp a b
  edn_cmp a b = nat_cmp (rank a) (rank b)

  pub items_cmp : Items → Items → Ordering
  items_cmp no_items no_items = Equal
  items_cmp no_items (item y ys) = Less
  items_cmp (item x xs) no_items = Greater
  items_cmp (item x xs) (item y ys) = ordering_then (edn_cmp x y) (items_cmp xs ys)

  pub entries_cmp : Entries → Entries → Ordering
  entries_cmp no_entries no_entries = Equal
  entries_cmp no_entries (entry l y ys) = Less
  entries_cmp (entry k x xs) no_entries = Greater
  entries_cmp (entry k x xs) (entry l y ys) = ordering_then (edn_cmp k l) (ordering_then (edn_cmp x y) (entries_cmp xs ys))

-- Each element stands before the next, so none equals another.
abbrev pub elements_ascend : Items → Bool
elements_ascend no_items = true
elements_ascend (item x no_items) = true
elements_ascend (item x (item y ys)) = is_lt (edn_cmp x y) && elements_ascend (item y ys)

-- Each key stands before the next.
abbrev pub keys_ascend : Entries → Bool
keys_ascend no_entries = true
keys_ascend (entry k x no_entries) = true
keys_ascend (entry k x (entry l y ys)) = is_lt (edn_cmp k l) && keys_ascend (entry l y ys)
