-- Numbers without their lowest bits.
use Rattle.std.proofs.Common.{◌≡◌, ℕ, ◌+◌, ◌/◌, ◌^◌, ◌<◌, ◌≤◌, sym, arith, ⊎_elim}
use Rattle.std.proofs.Math.Nat.{div-one, pow-le-pow_right}
use Rattle.std.proofs.Math.Pow.{shr_lt}
use Rattle.std.proofs.lemmas.Bool.{cases_lt}
use Rattle.std.proofs.lemmas.Nat.{shr-shr}

-- none is left out, or four more
pub whole : (q : ℕ) → q / 2 ^ 0 ≡ q
whole q = div-one q

pub four_more : (q s : ℕ) → q / 2 ^ (s + 4) ≡ q / 2 ^ s / 16
four_more q s = sym (shr-shr q s 4)

-- a number of 32 bits has no more than these
pub room : (x s : ℕ) → 0 < x → x ≤ 4294967295 / 2 ^ s → s < 32
room x s some h = ⊎_elim (λ less. less) (λ more. absurd (none more)) (cases_lt s 32)
  where
    none : 32 ≤ s → ⊥
    none m =
        let wide : 2 ^ 32 ≤ 2 ^ (0 + s) = pow-le-pow_right {n = 2} (omega arith) {i = 32} {j = 0 + s} (omega arith) in
        let all : 4294967295 / 2 ^ s < 1 = shr_lt 0 s (omega arith) in
        omega arith
