-- Tokens and strings, read from left to right, with the first fault that is met.
use Rattle.std.specs.Prelude.{ℕ, zero, suc, ◌+◌, ◌*◌, Bool, true, false, ◌&&◌, ◌||◌, ◌==◌, nat_lt, List, [], ◌∷◌, ◌++◌, length, take, drop, Option, Some, None, Result, Ok, Err, cond, ℤ, pos, negsuc, int_le, codes, encode_utf8, slice_index}
use Rattle.std.specs.Char.{digit_value}
use Rattle.std.specs.Str.{is_utf8}
use Rattle.ref_edn.specs.declared.faults.Fault.{Fault}
use Rattle.ref_edn.specs.declared.faults.Flaw.{Flaw}
use Rattle.ref_edn.specs.declared.faults.Flaw.TheVariants.{EndsEarly, BadNumber, TooLarge, BadEscape, BadName, LeftOut, NotUtf8}
use Rattle.ref_value.specs.Edn.{Edn, nil, boolean, int, string, keyword, symbol}
use Rattle.ref_edn.specs.Bytes.{is_one_of, is_digit, is_letter, is_sign, token_len, begins_with_digit, is_integer, integer_value}
use Rattle.ref_value.specs.Names.{is_keyword, is_symbol, bytes_eq, nil_text, true_text, false_text}
use Rattle.ref_edn.specs.Faults.{◌>>=◌, fault}

-- ---- tokens

-- The bytes that begin a token: a digit, a colon, a letter, or one of . * + ! - _ ? $ % & = < > /
unfoldable pub starts_token : ℕ → Bool
starts_token b = is_digit b || b == 58 || is_letter b || is_one_of (codes ".*+!-_?$%&=<>/") b

-- A number begins with a digit, or with a sign and a digit.
abbrev pub starts_number : List ℕ → Bool
starts_number [] = false
starts_number (b ∷ bs) = is_digit b || (is_sign b && begins_with_digit bs)

-- what stands behind the longest integer at the front
abbrev pub after_digits : List ℕ → List ℕ
after_digits [] = []
after_digits (b ∷ bs) = cond (is_digit b) (after_digits bs) (b ∷ bs)

abbrev pub after_numeral : List ℕ → List ℕ
after_numeral [] = []
after_numeral (b ∷ bs) = cond (b == 48) bs (after_digits (b ∷ bs))

abbrev pub after_integer : List ℕ → List ℕ
after_integer [] = []
after_integer (b ∷ bs) = cond (is_sign b) (after_numeral bs) (after_numeral (b ∷ bs))

-- Behind an integer these mark a ratio, a float, a suffix or a radix.
abbrev pub marks_left_out : List ℕ → Bool
marks_left_out [] = false
marks_left_out (b ∷ bs) = is_one_of (codes "./eENMrx") b

abbrev pub fits_i64 : ℤ → Bool
fits_i64 z = int_le (negsuc 9223372036854775807) z && int_le z (pos 9223372036854775807)

unfoldable pub number_value : List ℕ → Result Edn Flaw
number_value word = cond (is_integer word) (cond (fits_i64 (integer_value word)) (Ok (int (integer_value word))) (Err TooLarge)) (cond (marks_left_out (after_integer word)) (Err LeftOut) (Err BadNumber))

abbrev pub starts_keyword : List ℕ → Bool
starts_keyword [] = false
starts_keyword (b ∷ bs) = b == 58

unfoldable pub keyword_value : List ℕ → Result Edn Flaw
keyword_value name = cond (is_keyword name) (Ok (keyword name)) (Err BadName)

unfoldable pub word_value : List ℕ → Result Edn Flaw
word_value word = cond (bytes_eq word nil_text) (Ok nil) (cond (bytes_eq word true_text) (Ok (boolean true)) (cond (bytes_eq word false_text) (Ok (boolean false)) (cond (is_symbol word) (Ok (symbol word)) (Err BadName))))

-- what a token writes
unfoldable pub token_value : List ℕ → Result Edn Flaw
token_value word = cond (starts_number word) (number_value word) (cond (starts_keyword word) (keyword_value (drop 1 word)) (word_value word))

abbrev pub or_fault : List ℕ → List ℕ → Result Edn Flaw → Result (Edn × List ℕ) Fault
or_fault text rest (Ok x) = Ok (x, rest)
or_fault text rest (Err kind) = fault kind text

-- the token at the front
unfoldable pub token_at : List ℕ → Result (Edn × List ℕ) Fault
token_at text = or_fault text (drop (token_len text) text) (token_value (take (token_len text) text))

-- ---- strings

-- what a letter behind a backslash stands for
abbrev pub escape_of : ℕ → Option ℕ
escape_of e =
    cond (e == 116) (Some 9) (cond (e == 114) (Some 13) (cond (e == 110) (Some 10) (cond (e == 92) (Some 92) (cond (e == 34) (Some 34) (cond (e == 98) (Some 8) (cond (e == 102) (Some 12) None))))))

-- the number of four hexadecimal digits of either case
abbrev pub are_hex : List ℕ → Bool
are_hex text = nat_lt (digit_value (slice_index text 0)) 16 && nat_lt (digit_value (slice_index text 1)) 16 && nat_lt (digit_value (slice_index text 2)) 16 && nat_lt (digit_value (slice_index text 3)) 16

abbrev pub hex_value : List ℕ → ℕ
hex_value text = ((digit_value (slice_index text 0) * 16 + digit_value (slice_index text 1)) * 16 + digit_value (slice_index text 2)) * 16 + digit_value (slice_index text 3)

abbrev pub is_surrogate : ℕ → Bool
is_surrogate c = nat_lt 0xD7FF c && nat_lt c 0xE000

-- the bytes that an escape stands for, and what follows it; `text` is what follows its backslash, and `at` begins with that
unfoldable pub hex_at : List ℕ → List ℕ → Result (List ℕ × List ℕ) Fault
hex_at at text =
    cond (nat_lt (length text) 4) (fault EndsEarly []) (cond (are_hex text) (cond (is_surrogate (hex_value text)) (fault BadEscape at) (Ok (encode_utf8 (hex_value text), drop 4 text))) (fault BadEscape at))

abbrev pub letter_at : List ℕ → List ℕ → Option ℕ → Result (List ℕ × List ℕ) Fault
letter_at at text (Some c) = Ok (c ∷ [], text)
letter_at at text None = fault BadEscape at

abbrev pub escape_at : List ℕ → List ℕ → Result (List ℕ × List ℕ) Fault
escape_at at [] = fault EndsEarly []
escape_at at (e ∷ text) = cond (e == 117) (hex_at at text) (letter_at at text (escape_of e))

abbrev pub with_bytes : List ℕ → Result (List ℕ × List ℕ) Fault → Result (List ℕ × List ℕ) Fault
with_bytes bytes read = read >>= λ x. Ok (bytes ++ x.0, x.1)

-- The bytes of a string behind its opening quote, and what follows its closing quote. The number bounds the turns, and
-- the length is always enough.
unfoldable pub body_with : ℕ → List ℕ → Result (List ℕ × List ℕ) Fault
body_with zero text = fault EndsEarly []
body_with (suc turns) [] = fault EndsEarly []
body_with (suc turns) (b ∷ text) =
    cond (b == 34) (Ok ([], text)) (cond (b == 92) (escape_at (b ∷ text) text >>= λ x. with_bytes x.0 (body_with turns x.1)) (with_bytes (b ∷ []) (body_with turns text)))

unfoldable pub body_at : List ℕ → Result (List ℕ × List ℕ) Fault
body_at text = body_with (length text) text

-- A string at the front. Of a text in UTF-8 the bytes are UTF-8, so the last fault never comes there.
unfoldable pub string_at : List ℕ → Result (Edn × List ℕ) Fault
string_at text = body_at (drop 1 text) >>= λ x. cond (is_utf8 x.0) (Ok (string x.0, x.1)) (fault NotUtf8 text)
