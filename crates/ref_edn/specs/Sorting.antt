-- Elements and entries put into value order one after another, and that none equals an earlier one.
use Rattle.std.specs.Prelude.{◌≡◌, Bool, false, List, [], ◌∷◌}
use Rattle.std.specs.List.{list_any}
use Rattle.std.specs.Ordering.{is_eq}
use Rattle.std.specs.BTreeMap.{insert_entry}
use Rattle.std.specs.BTreeSet.{insert_key}
use Rattle.ref_value.specs.Edn.{Edn}
use Rattle.ref_value.specs.Order.{edn_cmp}

-- whether an element is among these
abbrev pub is_among : Edn → List Edn → Bool
is_among x seen = list_any (λ y. is_eq (edn_cmp x y)) seen

-- the elements after those of `seen`, which stand in value order, in value order
abbrev pub inserts : List Edn → List Edn → List Edn
inserts seen [] = seen
inserts seen (x ∷ xs) = inserts (insert_key edn_cmp seen x) xs

-- No element equals one of `seen` or one that stands before it.
abbrev pub NoneTwice : List Edn → List Edn → Type 0
NoneTwice seen [] = Unit {0}
NoneTwice seen (x ∷ xs) = (is_among x seen ≡ false) × NoneTwice (insert_key edn_cmp seen x) xs

-- whether a key is among those of these entries
abbrev pub is_key_among : Edn → List (Edn × Edn) → Bool
is_key_among k seen = list_any (λ e. is_eq (edn_cmp k e.0)) seen

abbrev pub inserts_entries : List (Edn × Edn) → List (Edn × Edn) → List (Edn × Edn)
inserts_entries seen [] = seen
inserts_entries seen (e ∷ es) = inserts_entries (insert_entry edn_cmp seen e.0 e.1) es

abbrev pub NoKeyTwice : List (Edn × Edn) → List (Edn × Edn) → Type 0
NoKeyTwice seen [] = Unit {0}
NoKeyTwice seen (e ∷ es) = (is_key_among e.0 seen ≡ false) × NoKeyTwice (insert_entry edn_cmp seen e.0 e.1) es
