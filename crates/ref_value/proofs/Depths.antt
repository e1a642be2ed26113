-- The nesting of a list with one more element.
use Rattle.std.proofs.Common.{◌≡◌, ℕ, ◌+◌, List, [], ◌∷◌, ◌++◌, refl, arith, take, get_or, ◌<◌, length}
use Rattle.std.specs.Prelude.{max}
use Rattle.std.proofs.lemmas.List.{take_more}
use Rattle.ref_value.specs.Edn.{Edn, nesting, items_depth, items_of, entries_depth, entries_of}
use Rattle.ref_value.specs.Lawful.{HasLawfulParts, AreLawful, AreLawfulEntries}

pub items_depth-more : (xs : List Edn) (x : Edn) → items_depth (items_of (xs ++ x ∷ [])) ≡ max (items_depth (items_of xs)) (nesting x)
items_depth-more [] x = omega arith
items_depth-more (y ∷ ys) x = omega (arith, items_depth-more ys x)

pub entries_depth-more : (xs : List (Edn × Edn)) (x : Edn × Edn) → entries_depth (entries_of (xs ++ x ∷ [])) ≡ max (max (entries_depth (entries_of xs)) (nesting x.0)) (nesting x.1)
entries_depth-more [] x = omega arith
entries_depth-more (y ∷ ys) x = omega (arith, entries_depth-more ys x)

-- `grind` takes a lemma up at the first call of its conclusion that shows every variable, so that call stands first.
pub items_depth_at : (xs : List Edn) (i : ℕ) (x : Edn) → i < length xs
    → (get_or xs i x ≡ get_or xs i x) × (items_depth (items_of (take (i + 1) xs)) ≡ max (items_depth (items_of (take i xs))) (nesting (get_or xs i x)))
items_depth_at xs i x h = (refl, rw (take_more xs i x h) (items_depth-more (take i xs) (get_or xs i x)))

pub entries_depth_at : (xs : List (Edn × Edn)) (i : ℕ) (x : Edn × Edn) → i < length xs
    → (get_or xs i x ≡ get_or xs i x) × (entries_depth (entries_of (take (i + 1) xs)) ≡ max (max (entries_depth (entries_of (take i xs))) (nesting (get_or xs i x).0)) (nesting (get_or xs i x).1))
entries_depth_at xs i x h = (refl, rw (take_more xs i x h) (entries_depth-more (take i xs) (get_or xs i x)))

pub AreLawful-more : (xs : List Edn) (x : Edn) → AreLawful (items_of xs) → HasLawfulParts x → AreLawful (items_of (xs ++ x ∷ []))
AreLawful-more [] x h p = (p, tt)
AreLawful-more (y ∷ ys) x h p = (h.0, AreLawful-more ys x h.1 p)

pub AreLawfulEntries-more : (xs : List (Edn × Edn)) (x : Edn × Edn) → AreLawfulEntries (entries_of xs) → HasLawfulParts x.0 → HasLawfulParts x.1 → AreLawfulEntries (entries_of (xs ++ x ∷ []))
AreLawfulEntries-more [] x h p q = (p, q, tt)
AreLawfulEntries-more (y ∷ ys) x h p q = (h.0, h.1, AreLawfulEntries-more ys x h.2 p q)

pub items_lawful_at : (xs : List Edn) (i : ℕ) (x : Edn) → i < length xs → x ≡ get_or xs i x → AreLawful (items_of (take i xs)) → HasLawfulParts x → AreLawful (items_of (take (i + 1) xs))
items_lawful_at xs i x h e k p = rw (take_more xs i x h) (rw (← e) (AreLawful-more (take i xs) x k p))

pub entries_lawful_at : (xs : List (Edn × Edn)) (i : ℕ) (x : Edn × Edn) → i < length xs → x ≡ get_or xs i x → AreLawfulEntries (entries_of (take i xs)) → HasLawfulParts x.0 → HasLawfulParts x.1
    → AreLawfulEntries (entries_of (take (i + 1) xs))
entries_lawful_at xs i x h e k p q = rw (take_more xs i x h) (rw (← e) (AreLawfulEntries-more (take i xs) x k p q))
