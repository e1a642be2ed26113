-- A map whose keys are the numbers below its length, as the list of its values.
use Rattle.std.specs.Prelude.{◌≡◌, ℕ, zero, suc, ◌+◌, ◌<◌, ◌≤◌, ◌^◌, true, List, [], ◌∷◌, Option, None, Some, is_some}
use Rattle.std.specs.Ordering.{nat_cmp}
use Rattle.std.specs.FinMap.{FinMap, get, len}

module _ {V : Type 0} where
  abbrev pub and_rest : Option V → List V → List V
  and_rest None rest = rest
  and_rest (Some v) rest = v ∷ rest

  -- the values at so many numbers from one on
  abbrev pub values_from : (ℕ → Option V) → ℕ → ℕ → List V
  values_from at k zero = []
  values_from at k (suc n) = and_rest (at k) (values_from at (k + 1) n)

  abbrev pub items_of : FinMap nat_cmp V → List V
  items_of m = values_from (get m) 0 (len m)

  pub record IsByNumber (m : FinMap nat_cmp V) : Type 0 where
    pub there : (q : ℕ) → q < len m → is_some (get m q) ≡ true
    pub none : (q : ℕ) → len m ≤ q → get m q ≡ None
    pub few : len m ≤ 2 ^ 32
