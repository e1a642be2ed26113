-- Runs of bytes from the front of a text.
use Rattle.std.proofs.Common.{◌≡◌, ℕ, ◌+◌, ◌<◌, ◌≤◌, Bool, true, false, cond, List, [], ◌∷◌, length, Some, None, refl, ◌∙◌, arith, one-add, add-one, drop, drop-cons, get_or, ◌-◌, ◌*◌, suc}
use Rattle.std.specs.Prelude.{not, nat_lt, position, ◌&&◌}
use Rattle.std.specs.List.{position_or_len}
use Rattle.std.proofs.lemmas.Bool.Decides.{nat_tests}
use Rattle.std.proofs.lemmas.List.{drop_all}
use Rattle.ref_edn.specs.Bytes.{is_delimiter, token_len, is_digit, all_digits, value_after}
use Rattle.ref_edn.specs.ReadTokens.{after_digits}

-- where a token ends, as the place of the first byte that ends one
token_len_is : (text : List ℕ) → token_len text ≡ position_or_len is_delimiter text
token_len_is [] = refl
token_len_is (b ∷ bs) =
    elim (is_delimiter b) as (λ t. cond t 0 (suc (token_len bs)) ≡ cond (not t) (1 + position_or_len is_delimiter bs) 0) [ true ↦ refl | false ↦ rw (one-add, token_len_is bs) refl ]

token_len_le : (text : List ℕ) → token_len text ≤ length text
token_len_le [] = omega arith
token_len_le (b ∷ bs) = elim (is_delimiter b) as (λ t. cond t 0 (suc (token_len bs)) ≤ suc (length bs)) [ true ↦ omega arith | false ↦ omega (arith, token_len_le bs) ]

some_only : (b : Bool) (n i : ℕ) → cond b (Some n) None ≡ Some i → n ≡ i
some_only true n i h = cc
some_only false n i h = absurd cc

none_only : (b : Bool) (n : ℕ) → cond b (Some n) None ≡ None → b ≡ false
none_only true n h = absurd cc
none_only false n h = refl

pub token_len_found : (text : List ℕ) (i : ℕ) → position is_delimiter text ≡ Some i → (token_len text ≡ i) × (i ≤ length text)
token_len_found text i h =
    let e : token_len text ≡ i = token_len_is text ∙ some_only (nat_lt (position_or_len is_delimiter text) (length text)) (position_or_len is_delimiter text) i h in
    (e, omega (arith, token_len_le text))

pub token_len_all : (text : List ℕ) → position is_delimiter text ≡ None → token_len text ≡ length text
token_len_all text h =
    let past = none_only (nat_lt (position_or_len is_delimiter text) (length text)) (position_or_len is_delimiter text) h in
    let le : length text ≤ position_or_len is_delimiter text = grind (arith, nat_tests) in
    omega (arith, token_len_is text, token_len_le text)

pub all_digits_at : (text : List ℕ) (i : ℕ) → i < length text
    → (get_or text i 0 ≡ get_or text i 0) × (all_digits (drop i text) ≡ (is_digit (get_or text i 0) && all_digits (drop (i + 1) text)))
all_digits_at text i h = (refl, rw (add-one, drop-cons text i 0) refl)

pub after_digits_at : (text : List ℕ) (i : ℕ) → i < length text
    → (get_or text i 0 ≡ get_or text i 0) × (after_digits (drop i text) ≡ cond (is_digit (get_or text i 0)) (after_digits (drop (i + 1) text)) (drop i text))
after_digits_at text i h = (refl, rw (add-one, drop-cons text i 0) refl)

pub after_digits_all : (text : List ℕ) (i : ℕ) → length text ≤ i → after_digits (drop i text) ≡ drop i text
after_digits_all text i h = rw (drop_all i text h) refl

-- one more digit of a number
pub value_after_at : (n : ℕ) (text : List ℕ) (i : ℕ) → i < length text → value_after n (drop i text) ≡ value_after (n * 10 + (get_or text i 0 - 48)) (drop (i + 1) text)
value_after_at n text i h = rw (add-one, drop-cons text i 0) refl

pub value_grows : (n : ℕ) (text : List ℕ) → n ≤ value_after n text
value_grows n [] = omega arith
value_grows n (b ∷ bs) = omega (arith, value_grows (n * 10 + (b - 48)) bs)
