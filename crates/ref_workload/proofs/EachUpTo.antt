-- What is so of each item up to one, and of that one too.
use Rattle.std.proofs.Common.{◌≡◌, ℕ, ◌+◌, ◌<◌, ⊎_elim, List, [], ◌∷◌, get_or, length, refl, subst, zero, suc, arith}
use Rattle.std.proofs.lemmas.Bool.{cases_lt}

same_item : {X : Type 0} (xs : List X) (i : ℕ) (d e : X) → i < length xs → get_or xs i d ≡ get_or xs i e
same_item [] i d e below = absurd (omega (arith, below))
same_item (x ∷ xs) zero d e below = refl
same_item (x ∷ xs) (suc i) d e below = same_item xs i d e (omega (arith, below))

at_one : {X : Type 0} (P : X → Type 0) (xs : List X) (i k : ℕ) (d e : X) → i < length xs → P (get_or xs i e) → i ≡ k → P (get_or xs k d)
at_one P xs i k d e room here same = subst (λ n. P (get_or xs n d)) same (subst P (same_item xs i e d room) here)

pub each_up_to : {X : Type 0} (P : X → Type 0) (xs : List X) (i : ℕ) (e : X) → i < length xs → ((k : ℕ) (d : X) → k < i → P (get_or xs k d)) → P (get_or xs i e)
    → (k : ℕ) (d : X) → k < i + 1 → P (get_or xs k d)
each_up_to P xs i e room all here k d below = ⊎_elim (λ less. all k d less) (λ more. at_one P xs i k d e room here (omega (arith, more, below))) (cases_lt k i)
