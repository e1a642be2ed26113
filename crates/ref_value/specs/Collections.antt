-- Maps and sets as lists in value order: what stands at a key, and what one more or one less member gives.
use Rattle.std.specs.Prelude.{◌≡◌, ◌≢◌, ◌≤◌, ◌<◌, ℕ, Bool, List, length, Option}
use Rattle.std.specs.List.{HoldsAt, AllWithin, list_any}
use Rattle.std.specs.BTreeMap.{insert_entry, is_at}
use Rattle.std.specs.BTreeSet.{insert_key}
use Rattle.std.specs.Map.{lookup, remove_entry}
use Rattle.std.specs.Set.{remove_key}
use Rattle.std.specs.declared.cmp.Ordering.{Ordering}
use Rattle.std.specs.declared.cmp.Ordering.TheVariants.{Less, Equal, Greater}
use Rattle.ref_value.specs.Edn.{Edn}
use Rattle.ref_value.specs.Order.{edn_cmp}

-- ---- maps

-- the value of a key, if there is one
abbrev pub value_at : List (Edn × Edn) → Edn → Option Edn
value_at es k = lookup (is_at (edn_cmp k)) es

-- The entries with this one; it takes the place of one with an equal key.
abbrev pub entries_with : List (Edn × Edn) → Edn → Edn → List (Edn × Edn)
entries_with es k x = insert_entry edn_cmp es k x

-- the entries of other keys
abbrev pub entries_without : List (Edn × Edn) → Edn → List (Edn × Edn)
entries_without es k = remove_entry (is_at (edn_cmp k)) es

-- The new entries have this at the key, and at each other key what the old ones have.
pub record ChangesKey (old new : List (Edn × Edn)) (k : Edn) (x : Option Edn) : Type 0 where
  pub here : value_at new k ≡ x
  pub elsewhere : (q : Edn) → q ≢ k → value_at new q ≡ value_at old q

-- ---- sets

-- whether an element is there
abbrev pub has_element : List Edn → Edn → Bool
has_element xs x = list_any (is_at (edn_cmp x)) xs

abbrev pub elements_with : List Edn → Edn → List Edn
elements_with xs x = insert_key edn_cmp xs x

abbrev pub elements_without : List Edn → Edn → List Edn
elements_without xs x = remove_key (is_at (edn_cmp x)) xs

-- In the new elements this one is there or not, and each other one where it is in the old ones.
pub record ChangesElement (old new : List Edn) (x : Edn) (there : Bool) : Type 0 where
  pub here : has_element new x ≡ there
  pub elsewhere : (q : Edn) → q ≢ x → has_element new q ≡ has_element old q

-- ---- places, where `order` says how a member compares with what is looked for

-- An equal one stands at this place.
pub record IsFoundAt {X : Type 0} (order : X → Ordering) (xs : List X) (i : ℕ) : Type 0 where
  pub in_range : i < length xs
  pub equal : HoldsAt (λ y. order y ≡ Equal) xs i

-- It would go to this place: lesser ones stand before, and greater ones from there on.
pub record IsGapAt {X : Type 0} (order : X → Ordering) (xs : List X) (i : ℕ) : Type 0 where
  pub in_range : i ≤ length xs
  pub lesser : AllWithin (λ y. order y ≡ Less) xs 0 i
  pub greater : AllWithin (λ y. order y ≡ Greater) xs i (length xs)
