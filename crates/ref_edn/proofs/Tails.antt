-- What is behind the first byte, as the code has it.
use Rattle.std.proofs.Common.{◌≡◌, ℕ, ◌-◌, ◌<◌, List, [], ◌∷◌, length, take, drop, arith}
use Rattle.std.proofs.lemmas.List.{take_all}

pub tail_is : (text : List ℕ) → 0 < length text → take (length text - 1) (drop 1 text) ≡ drop 1 text
tail_is [] some = absurd (omega arith)
tail_is (b ∷ bs) some = take_all (length (b ∷ bs) - 1) bs (omega arith)
