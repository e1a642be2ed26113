-- A number that stands for most of a value in a sort: its kind, and an integer or the front of its text.
use Rattle.std.specs.Prelude.{ℕ, zero, suc, ◌+◌, ◌-◌, ◌*◌, ◌≤◌, min, ℤ, pos, negsuc, List, [], ◌∷◌}
use Rattle.std.specs.List.{AllByRecursion}
use Rattle.ref_value.specs.Edn.{Edn, int, text_of}
use Rattle.ref_value.specs.Order.{rank}

-- what k bytes spell behind n, the greatest first, with 0 where there are no more
abbrev pub spelled : ℕ → ℕ → List ℕ → ℕ
spelled zero n bs = n
spelled (suc k) n [] = spelled k (n * 256) []
spelled (suc k) n (b ∷ bs) = spelled k (n * 256 + b) bs

-- Behind the number of their kind there are 56 bits for integers, in order. Those that need more have the last number
-- of their side, as have those that are the last with 56.
abbrev pub int_key : ℤ → ℕ
int_key (pos n) = 180143985094819840 + min n 36028797018963967
int_key (negsuc n) = 180143985094819839 - min n 36028797018963967

abbrev pub sort_key : Edn → ℕ
sort_key (int n) = int_key n
sort_key v = spelled 7 (rank v) (text_of v)

abbrev pub AreBytes : List ℕ → Type 0
AreBytes bs = AllByRecursion (λ b. b ≤ 255) bs
