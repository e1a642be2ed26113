-- How the logic stores EDN data: as a tree of numbers that gives it back.
use Rattle.std.specs.Prelude.{◌≡◌, ℕ, ℤ, pos, negsuc, true, false, List, [], ◌∷◌, ◌==◌, cond, refl}
use Rattle.std.proofs.Common.{sym, ◌∙◌, ap}
use base.Stored.{Coded, Gv, gnil, gnum, gcons}
use Rattle.ref_value.specs.Edn.{Edn, nil, boolean, int, string, keyword, symbol, vector, map, set, Items, no_items, item, Entries, no_entries, entry}

abbrev bytes_tree : List ℕ → Gv
bytes_tree [] = gnil
bytes_tree (b ∷ bs) = gcons (gnum b) (bytes_tree bs)

abbrev number : Gv → ℕ
number gnil = 0
number (gnum n) = n
number (gcons a b) = 0

abbrev tree_bytes : Gv → List ℕ
tree_bytes gnil = []
tree_bytes (gnum n) = []
tree_bytes (gcons a b) = number a ∷ tree_bytes b

tree_bytes-bytes_tree : (bs : List ℕ) → tree_bytes (bytes_tree bs) ≡ bs
tree_bytes-bytes_tree [] = refl
tree_bytes-bytes_tree (b ∷ bs) = ap (λ t. b ∷ t) (tree_bytes-bytes_tree bs)

abbrev int_tree : ℤ → Gv
int_tree (pos n) = gcons gnil (gnum n)
int_tree (negsuc n) = gnum n

abbrev tree_int : Gv → ℤ
tree_int gnil = pos 0
tree_int (gnum n) = negsuc n
tree_int (gcons a b) = pos (number b)

tree_int-int_tree : (n : ℤ) → tree_int (int_tree n) ≡ n
tree_int-int_tree (pos n) = refl
tree_int-int_tree (negsuc n) = refl

mutual
  pub tree : Edn → Gv
  tree nil = gcons (gnum 0) gnil
  tree (boolean true) = gcons (gnum 1) gnil
  tree (boolean false) = gcons (gnum 2) gnil
  tree (int n) = gcons (gnum 3) (int_tree n)
  tree (string s) = gcons (gnum 4) (bytes_tree s)
  tree (keyword s) = gcons (gnum 5) (bytes_tree s)
  tree (symbol s) = gcons (gnum 6) (bytes_tree s)
  tree (vector xs) = gcons (gnum 7) (items_tree xs)
  tree (map xs) = gcons (gnum 8) (entries_tree xs)
  tree (set xs) = gcons (gnum 9) (items_tree xs)

  items_tree : Items → Gv
  items_tree no_items = gnil
  items_tree (item x xs) = gcons (tree x) (items_tree xs)

  entries_tree : Entries → Gv
  entries_tree no_entries = gnil
  entries_tree (entry k x xs) = gcons (tree k) (gcons (tree x) (entries_tree xs))

abbrev mutual
  pub from_tree : Gv → Edn
  from_tree gnil = nil
  from_tree (gnum n) = nil
  from_tree (gcons a b) =
      cond (number a == 0) nil (cond (number a == 1) (boolean true) (cond (number a == 2) (boolean false) (cond (number a == 3) (int (tree_int b))
      (cond (number a == 4) (string (tree_bytes b)) (cond (number a == 5) (keyword (tree_bytes b)) (cond (number a == 6) (symbol (tree_bytes b))
      (cond (number a == 7) (vector (items_from b)) (cond (number a == 8) (map (entries_from b)) (set (items_from b))))))))))

  items_from : Gv → Items
  items_from gnil = no_items
  items_from (gnum n) = no_items
  items_from (gcons a b) = item (from_tree a) (items_from b)

  entries_from : Gv → Entries
  entries_from gnil = no_entries
  entries_from (gnum n) = no_entries
  entries_from (gcons a gnil) = no_entries
  entries_from (gcons a (gnum n)) = no_entries
  entries_from (gcons a (gcons b c)) = entry (from_tree a) (from_tree b) (entries_from c)

mutual
  unfolding tree items_tree entries_tree

  pub from_tree-tree : (v : Edn) → from_tree (tree v) ≡ v
  from_tree-tree nil = refl
  from_tree-tree (boolean true) = refl
  from_tree-tree (boolean false) = refl
  from_tree-tree (int n) = ap int (tree_int-int_tree n)
  from_tree-tree (string s) = ap string (tree_bytes-bytes_tree s)
  from_tree-tree (keyword s) = ap keyword (tree_bytes-bytes_tree s)
  from_tree-tree (symbol s) = ap symbol (tree_bytes-bytes_tree s)
  from_tree-tree (vector xs) = ap vector (items_from-items_tree xs)
  from_tree-tree (map xs) = ap map (entries_from-entries_tree xs)
  from_tree-tree (set xs) = ap set (items_from-items_tree xs)

  items_from-items_tree : (xs : Items) → items_from (items_tree xs) ≡ xs
  items_from-items_tree no_items = refl
  items_from-items_tree (item x xs) = λ i. item (from_tree-tree x i) (items_from-items_tree xs i)

  entries_from-entries_tree : (xs : Entries) → entries_from (entries_tree xs) ≡ xs
  entries_from-entries_tree no_entries = refl
  entries_from-entries_tree (entry k x xs) = λ i. entry (from_tree-tree k i) (from_tree-tree x i) (entries_from-entries_tree xs i)

abbrev pub edn_code : Coded Edn
edn_code = record { code = tree; inj = λ x y p. sym (from_tree-tree x) ∙ ap from_tree p ∙ from_tree-tree y }
