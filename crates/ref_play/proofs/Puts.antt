-- A function with another value at one number.
use Rattle.std.proofs.Common.{◌≡◌, ℕ, refl, sym}
use Rattle.std.proofs.lemmas.Bool.{eq-eqb, ne_eqb}
use Rattle.ref_play.specs.Present.{put}

pub put_here : {X : Type 0} (f : ℕ → X) (a : ℕ) (x : X) → put f a x a ≡ x
put_here f a x = rw (eq-eqb a a refl) refl

pub put_other : {X : Type 0} (f : ℕ → X) (a : ℕ) (x : X) (b : ℕ) → (b ≡ a → ⊥) → put f a x b ≡ f b
put_other f a x b other = rw (ne_eqb a b (λ same. other (sym same))) refl
