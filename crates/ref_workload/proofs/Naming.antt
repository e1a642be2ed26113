-- What the operations of a step name, from a place on.
use Rattle.std.proofs.Common.{◌≡◌, ℕ, ◌≤◌, ◌==◌, Bool, List, [], ◌∷◌, Option, length, take, drop, refl, sym, ap, ◌∙◌, zero, suc, arith}
use Rattle.std.specs.Prelude.{◌↔◌, IsTrue}
use Rattle.std.specs.List.{filter_map}
use Rattle.std.proofs.lemmas.Bool.Decides.{nat_tests}
use Rattle.ref_log.specs.declared.operations.Done.{Done}
use Rattle.ref_workload.specs.Orderly.{asked}

pub take_all : {X : Type 0} (n : ℕ) (xs : List X) → length xs ≤ n → take n xs ≡ xs
take_all zero [] h = refl
take_all (suc n) [] h = refl
take_all zero (x ∷ xs) h = absurd (omega arith)
take_all (suc n) (x ∷ xs) h = ap (λ ys. x ∷ ys) (take_all n xs (omega arith))

drop_all : {X : Type 0} (n : ℕ) (xs : List X) → length xs ≤ n → drop n xs ≡ []
drop_all zero [] h = refl
drop_all (suc n) [] h = refl
drop_all zero (x ∷ xs) h = absurd (omega arith)
drop_all (suc n) (x ∷ xs) h = drop_all n xs (omega arith)

-- Nothing is left exactly at the end.
pub at_end : {Z : Type 0} (n : ℕ) (zs : List Z) → n ≤ length zs → IsTrue (n == length zs) ↔ (drop n zs ≡ [])
at_end n zs within = (λ e. drop_all n zs (grind (arith, nat_tests)), λ none. ended n zs within none)
  where
    ended : {Z : Type 0} (m : ℕ) (ys : List Z) → m ≤ length ys → drop m ys ≡ [] → IsTrue (m == length ys)
    ended zero [] h none = refl
    ended zero (y ∷ ys) h none = absurd (cc)
    ended (suc m) [] h none = absurd (omega arith)
    ended (suc m) (y ∷ ys) h none =
        let rest = ended m ys (omega arith) none in
        grind (arith, nat_tests)

-- Past the last element the whole is named exactly if nothing is left.
pub named_all : {X Y : Type 0} (f : X → Option Y) (whole : Type 0) (left : List Y) (xs : List X) (i : ℕ) (b : Bool) → length xs ≤ i
    → whole ↔ (left ≡ filter_map f (drop i xs)) → IsTrue b ↔ (left ≡ []) → IsTrue b ↔ whole
named_all f whole left xs i b past same end =
    let none : filter_map f (drop i xs) ≡ [] = ap (filter_map f) (drop_all i xs past) in
    (λ e. same.1 (end.0 e ∙ sym none), λ w. end.1 (same.0 w ∙ none))

asked_none : (dones : List Done) → asked dones ≡ [] → dones ≡ []
asked_none [] e = refl
asked_none (d ∷ dones) e = absurd (cc)

-- The same of the operations that were asked.
pub asked_end : (n : ℕ) (dones : List Done) → n ≤ length dones → IsTrue (n == length dones) ↔ (asked (drop n dones) ≡ [])
asked_end n dones within =
    let end = at_end n dones within in
    (λ e. ap asked (end.0 e), λ none. end.1 (asked_none (drop n dones) none))
