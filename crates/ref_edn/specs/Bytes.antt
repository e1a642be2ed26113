-- The bytes of a text by what they do, and the numbers that digits write.
use Rattle.std.specs.Prelude.{ℕ, ℤ, suc, ◌+◌, ◌-◌, ◌*◌, Bool, ◌||◌, ◌&&◌, ◌==◌, List, [], ◌∷◌, cond, not, false, pos}
use Rattle.std.specs.List.{list_all}
use Rattle.std.proofs.Math.IntN.{neg_ℤ}
pub use Rattle.ref_value.specs.Letters.{is_one_of, is_digit, is_letter, begins_with_digit}

-- space, tab, newline, return, form feed, comma
abbrev pub is_space : ℕ → Bool
is_space b = b == 32 || b == 9 || b == 10 || b == 13 || b == 12 || b == 44

abbrev pub is_close : ℕ → Bool
is_close b = b == 41 || b == 93 || b == 125

-- what ends a token: whitespace, a quote, a semicolon, a bracket
unfoldable pub is_delimiter : ℕ → Bool
is_delimiter b = is_space b || b == 34 || b == 59 || b == 40 || b == 91 || b == 123 || is_close b

abbrev pub is_sign : ℕ → Bool
is_sign b = b == 43 || b == 45

-- how many bytes stand before what ends a token
abbrev pub token_len : List ℕ → ℕ
token_len [] = 0
token_len (b ∷ bs) = cond (is_delimiter b) 0 (suc (token_len bs))

-- ---- integers

abbrev pub all_digits : List ℕ → Bool
all_digits bs = list_all is_digit bs

-- 0, or a digit from 1 on and further digits
abbrev pub is_numeral : List ℕ → Bool
is_numeral [] = false
is_numeral (b ∷ []) = is_digit b
is_numeral (b ∷ c ∷ bs) = not (b == 48) && is_digit b && all_digits (c ∷ bs)

-- the number that the digits write when they follow those of n
abbrev pub value_after : ℕ → List ℕ → ℕ
value_after n [] = n
value_after n (b ∷ bs) = value_after (n * 10 + (b - 48)) bs

abbrev pub digits_value : List ℕ → ℕ
digits_value bs = value_after 0 bs

-- an optional sign, and a numeral
abbrev pub is_integer : List ℕ → Bool
is_integer [] = false
is_integer (b ∷ bs) = cond (is_sign b) (is_numeral bs) (is_numeral (b ∷ bs))

abbrev pub integer_value : List ℕ → ℤ
integer_value [] = pos 0
integer_value (b ∷ bs) = cond (b == 45) (neg_ℤ (pos (digits_value bs))) (cond (b == 43) (pos (digits_value bs)) (pos (digits_value (b ∷ bs))))
