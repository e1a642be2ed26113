-- Places in a list, where `order` says how a member compares with what is looked for.
use Rattle.std.proofs.Common.{◌≡◌, ℕ, zero, suc, List, ◌∷◌, arith}
use Rattle.std.specs.declared.cmp.Ordering.{Ordering}
use Rattle.std.specs.declared.cmp.Ordering.TheVariants.{Less, Equal, Greater}
use Rattle.ref_value.specs.Collections.{IsFoundAt, IsGapAt}

module _ {X : Type 0} (order : X → Ordering) where
  pub gap_tail : (y : X) (ys : List X) (i : ℕ) → IsGapAt order (y ∷ ys) (suc i) → IsGapAt order ys i
  gap_tail y ys i h = record {
    in_range = omega (arith, h.in_range);
    lesser = λ k d a b. h.lesser (suc k) d (omega arith) (omega arith);
    greater = λ k d a b. h.greater (suc k) d (omega arith) (omega arith);
  }

  pub found_tail : (y : X) (ys : List X) (i : ℕ) → IsFoundAt order (y ∷ ys) (suc i) → IsFoundAt order ys i
  found_tail y ys i h = record { in_range = omega (arith, h.in_range); equal = λ d. h.equal d }

  pub gap_head : (y : X) (ys : List X) (i : ℕ) → IsGapAt order (y ∷ ys) (suc i) → order y ≡ Less
  gap_head y ys i h = h.lesser 0 y (omega arith) (omega arith)

  pub gap_here : (y : X) (ys : List X) → IsGapAt order (y ∷ ys) zero → order y ≡ Greater
  gap_here y ys h = h.greater 0 y (omega arith) (omega arith)

  pub found_here : (y : X) (ys : List X) → IsFoundAt order (y ∷ ys) zero → order y ≡ Equal
  found_here y ys h = h.equal y

  pub gap_later : (y : X) (ys : List X) → IsGapAt order (y ∷ ys) zero → IsGapAt order ys zero
  gap_later y ys h = record {
    in_range = omega arith;
    lesser = λ k d a b. absurd (omega arith);
    greater = λ k d a b. h.greater (suc k) d (omega arith) (omega arith);
  }
