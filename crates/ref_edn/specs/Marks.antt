-- Elements and keys in the order of reading, each with how many bytes were left where it began, and the first of them
-- that equals an earlier one.
use Rattle.std.specs.Prelude.{ℕ, ◌<◌, List, [], ◌∷◌, map, max, cond, ⊤}
use Rattle.std.specs.List.{AllByRecursion}
use Rattle.std.specs.BTreeSet.{insert_key}
use Rattle.std.specs.Ordering.{is_lt}
use Rattle.std.specs.declared.cmp.Reverse.{Reverse}
use Rattle.ref_value.specs.Edn.{Edn}
use Rattle.ref_value.specs.Order.{edn_cmp}
use Rattle.ref_edn.specs.Sorting.{is_among}

-- an element, and how many bytes were left
abbrev pub Mark : Type 0
Mark = Edn × Reverse ℕ

abbrev pub left_at : Mark → ℕ
left_at m = m.1.0

abbrev pub elements_of : List Mark → List Edn
elements_of ms = map (λ m. m.0) ms

-- a key, how many bytes were left, and its value
abbrev pub keys_of : List (Mark × Edn) → List Mark
keys_of es = map (λ e. e.0) es

abbrev pub pairs_of : List (Mark × Edn) → List (Edn × Edn)
pairs_of es = map (λ e. (e.0.0, e.1)) es

-- Fewer bytes are left at each than at those before it, and some at all.
abbrev pub Falls : List Mark → Type 0
Falls [] = ⊤
Falls (m ∷ ms) = (0 < left_at m) × AllByRecursion (λ n. left_at n < left_at m) ms × Falls ms

-- how many bytes were left at the first that equals one of `seen` or one before it, or 0
abbrev pub first_twice : List Edn → List Mark → ℕ
first_twice seen [] = 0
first_twice seen (m ∷ ms) = cond (is_among m.0 seen) (left_at m) (first_twice (insert_key edn_cmp seen m.0) ms)

-- the greatest number of bytes left at one that doesn't stand behind its neighbour in value order, or 0
abbrev pub twin_after : Mark → List Mark → ℕ
twin_after m [] = 0
twin_after m (n ∷ ns) = max (cond (is_lt (edn_cmp m.0 n.0)) 0 (left_at n)) (twin_after n ns)

abbrev pub twin_left : List Mark → ℕ
twin_left [] = 0
twin_left (m ∷ ms) = twin_after m ms
