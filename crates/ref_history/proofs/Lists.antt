-- What is made of the rest of a list, from a place on.
use Rattle.std.proofs.Common.{◌≡◌, ℕ, ◌+◌, ◌<◌, List, ◌++◌, refl, drop, get_or, length, drop-cons, add-one}
use Rattle.std.specs.List.{flat_map}

pub flat_map_at : {X : Type 0} (f : X → List ℕ) (xs : List X) (i : ℕ) (x : X) → i < length xs
    → (get_or xs i x ≡ get_or xs i x) × (flat_map f (drop i xs) ≡ f (get_or xs i x) ++ flat_map f (drop (i + 1) xs))
flat_map_at f xs i x h = (refl, rw (add-one, drop-cons xs i x) refl)
