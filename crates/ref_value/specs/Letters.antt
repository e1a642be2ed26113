-- Bytes that are letters, digits, or one of some.
use Rattle.std.specs.Prelude.{ℕ, Bool, ◌||◌, ◌&&◌, ◌==◌, List, [], ◌∷◌, nat_lt, not, false}
use Rattle.std.specs.List.{list_any}

abbrev pub is_one_of : List ℕ → ℕ → Bool
is_one_of bytes b = list_any (λ c. c == b) bytes

abbrev pub is_digit : ℕ → Bool
is_digit b = not (nat_lt b 48) && nat_lt b 58

abbrev pub is_letter : ℕ → Bool
is_letter b = (not (nat_lt b 65) && nat_lt b 91) || (not (nat_lt b 97) && nat_lt b 123)

abbrev pub begins_with_digit : List ℕ → Bool
begins_with_digit [] = false
begins_with_digit (b ∷ bs) = is_digit b
