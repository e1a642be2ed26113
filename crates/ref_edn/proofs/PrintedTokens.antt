-- What is printed of an integer, a keyword or a symbol is a token, and ASCII.
use Rattle.std.proofs.Common.{◌≡◌, ℕ, zero, suc, ◌+◌, ◌<◌, ◌^◌, ◌*◌, ◌-◌, ◌%◌, Bool, true, false, List, [], ◌∷◌, ◌++◌, length, refl, sym, ap, subst, ◌∙◌, arith, IsTrue, get_or, length-append, lit<}
use Rattle.std.proofs.Common.{inl, inr}
use Rattle.std.specs.Prelude.{not, nat_lt, ◌==◌, ◌&&◌, ◌||◌, ℤ, pos, negsuc, FitsSigned, codes}
use Rattle.std.specs.Int.{w64}
use Rattle.std.specs.List.{list_all, position_or_len, before_first, after_first}
use Rattle.std.specs.Fmt.{decimal, signed_decimal}
use Rattle.std.proofs.Math.IntN.{neg_ℤ}
use Rattle.std.proofs.lemmas.Bool.{and_parts, or_cases, or_right, cases_lt, agree_below, agree_below_at, ltb-true, lt-ltb, eqb-true}
use Rattle.std.proofs.lemmas.Bool.Decides.{nat_tests}
use Rattle.std.proofs.lemmas.Fmt.{decimal_by_steps, decimal_digit, first_decimal}
use Rattle.std.proofs.lemmas.List.{drop_all}
use Rattle.std.proofs.lemmas.List.Folds.{list_all-append}
use Rattle.std.proofs.lemmas.List.Sums.{split_at_first, passes_at_first}
use Rattle.ref_value.specs.Edn.{int}
use Rattle.ref_edn.specs.Bytes.{is_delimiter, is_digit, is_letter, is_sign, is_one_of, all_digits, is_numeral, value_after, digits_value, is_integer, integer_value}
use Rattle.ref_value.specs.Names.{is_name_byte, begins_part, is_part, is_slash, is_name, is_word, is_keyword, is_symbol, bytes_eq}
use Rattle.ref_edn.specs.Grammar.{Token, integer_token, Inside}

-- ---- integers

record Digits (n : ℕ) (ds : List ℕ) : Type 0 where
  digits : all_digits ds ≡ true
  value : digits_value ds ≡ n
  some : 0 < length ds

digits-more : (ds : List ℕ) (d : ℕ) → all_digits ds ≡ true → is_digit d ≡ true → all_digits (ds ++ d ∷ []) ≡ true
digits-more [] d h k = rw k refl
digits-more (b ∷ ds) d h k = let p = and_parts (is_digit b) (all_digits ds) h in rw (p.0, digits-more ds d p.1 k) refl

value-more : (m : ℕ) (ds : List ℕ) (d : ℕ) → value_after m (ds ++ d ∷ []) ≡ value_after m ds * 10 + (d - 48)
value-more m [] d = refl
value-more m (b ∷ ds) d = value-more (m * 10 + (b - 48)) ds d

digit_is : (n : ℕ) → n < 10 → is_digit (48 + n) ≡ true
digit_is n h = grind (arith, nat_tests)

decimal_digits : (n : ℕ) → n < 2 ^ 64 → Digits n (decimal n)
decimal_digits =
    decimal_by_steps Digits
    (λ n h. record { digits = rw (digit_is n h) refl; value = omega arith; some = omega arith })
    (λ n ds h p. record {
      digits = digits-more ds (48 + n % 10) p.digits (digit_is (n % 10) (omega arith));
      value = value-more 0 ds (48 + n % 10) ∙ omega (arith, p.value);
      some = omega (arith, length-append ds ((48 + n % 10) ∷ []));
    })

numeral : (ds : List ℕ) → all_digits ds ≡ true → 48 < get_or ds 0 0 → is_numeral ds ≡ true
numeral [] h k = absurd (omega arith)
numeral (b ∷ []) h k = (and_parts (is_digit b) true h).0
numeral (b ∷ c ∷ ds) h k = let p = and_parts (is_digit b) (all_digits (c ∷ ds)) h in let q : not (b == 48) ≡ true = grind (arith, nat_tests) in rw (q, p.0, p.1) refl

decimal_numeral : (n : ℕ) → n < 2 ^ 64 → is_numeral (decimal n) ≡ true
decimal_numeral zero h = rw (decimal_digit 0 (omega arith)) refl
decimal_numeral (suc n) h = numeral (decimal (suc n)) ((decimal_digits (suc n) h).digits) (first_decimal (suc n) (omega arith) h)

-- a digit is no sign
unsigned : (b : ℕ) → is_digit b ≡ true → (is_sign b ≡ false) × ((b == 43) ≡ false) × ((b == 45) ≡ false)
unsigned b h =
    let p = and_parts (not (nat_lt b 48)) (nat_lt b 58) h in
    let plus : (b == 43) ≡ false = grind (arith, nat_tests) in
    let minus : (b == 45) ≡ false = grind (arith, nat_tests) in
    (rw (plus, minus) refl, plus, minus)

unsigned_integer : (ds : List ℕ) → all_digits ds ≡ true → is_numeral ds ≡ true → is_integer ds ≡ true
unsigned_integer [] h k = k
unsigned_integer (b ∷ ds) h k = rw (unsigned b (and_parts (is_digit b) (all_digits ds) h).0).0 k

unsigned_value : (ds : List ℕ) → all_digits ds ≡ true → 0 < length ds → integer_value ds ≡ pos (digits_value ds)
unsigned_value [] h k = refl
unsigned_value (b ∷ ds) h k = let u = unsigned b (and_parts (is_digit b) (all_digits ds) h).0 in rw (u.2, u.1) refl

token_of : (t : List ℕ) (n : ℤ) → is_integer t ≡ true → integer_value t ≡ n → FitsSigned w64 n → Token t (int n)
token_of t n h e f = subst (λ (m : ℤ). Token t (int m)) e (integer_token h (rw e f))

pub int_token : (n : ℤ) → FitsSigned w64 n → Token (signed_decimal n) (int n)
int_token (pos n) f =
    let small : n < 2 ^ 64 = omega arith in
    let d = decimal_digits n small in
    token_of (decimal n) (pos n) (unsigned_integer (decimal n) d.digits (decimal_numeral n small)) (unsigned_value (decimal n) d.digits d.some ∙ ap pos d.value) f
int_token (negsuc n) f =
    let small : suc n < 2 ^ 64 = omega arith in
    let d = decimal_digits (suc n) small in
    token_of (45 ∷ decimal (suc n)) (negsuc n) (decimal_numeral (suc n) small) (ap (λ (m : ℕ). neg_ℤ (pos m)) d.value) f

digit_inside : (b : ℕ) → is_digit b ≡ true → is_delimiter b ≡ false
unfolding is_delimiter
digit_inside b h = let p = and_parts (not (nat_lt b 48)) (nat_lt b 58) h in grind (arith, nat_tests)

digits_inside : (ds : List ℕ) → all_digits ds ≡ true → Inside ds
digits_inside [] h = tt
digits_inside (b ∷ ds) h = let p = and_parts (is_digit b) (all_digits ds) h in (digit_inside b p.0, digits_inside ds p.1)

minus_inside : is_delimiter 45 ≡ false
unfolding is_delimiter
minus_inside = refl

pub int_inside : (n : ℤ) → FitsSigned w64 n → Inside (signed_decimal n)
int_inside (pos n) f = digits_inside (decimal n) ((decimal_digits n (omega arith)).digits)
int_inside (negsuc n) f = (minus_inside, digits_inside (decimal (suc n)) ((decimal_digits (suc n) (omega arith)).digits))

-- ---- names

abbrev is_symbol_byte : ℕ → Bool
is_symbol_byte b = is_name_byte b || is_slash b

below_at : (b : ℕ) (bs : List ℕ) → list_all (λ c. nat_lt c 128) bs ≡ true → is_one_of bs b ≡ true → b < 128
below_at b [] h k = absurd cc
below_at b (c ∷ bs) h k =
    let p = and_parts (nat_lt c 128) (list_all (λ d. nat_lt d 128) bs) h in
    elim (or_cases (c == b) (is_one_of bs b) k) [ inl e ↦ rw (← eqb-true c b e) (ltb-true c 128 p.0) | inr e ↦ below_at b bs p.1 e ]

name_byte_below : (b : ℕ) → is_name_byte b ≡ true → b < 128
unfolding is_name_byte
name_byte_below b h =
    elim (or_cases (is_letter b || is_digit b) (is_one_of (codes ".*+!-_?$%&=<>:#") b) h) [
      | inl p ↦ grind (arith, nat_tests)
      | inr p ↦ below_at b (codes ".*+!-_?$%&=<>:#") refl p
    ]

symbol_byte_below : (b : ℕ) → is_symbol_byte b ≡ true → b < 128
symbol_byte_below b h = elim (or_cases (is_name_byte b) (is_slash b) h) [ inl p ↦ name_byte_below b p | inr p ↦ rw (eqb-true b 47 p) (lit< tt) ]

no_delimiters : agree_below (λ b. is_symbol_byte b && is_delimiter b) (λ b. false) 128 ≡ true
unfolding is_delimiter is_name_byte
no_delimiters = refl

symbol_byte_inside : (b : ℕ) → is_symbol_byte b ≡ true → is_delimiter b ≡ false
symbol_byte_inside b h = sym (ap (λ (t : Bool). t && is_delimiter b) h) ∙ agree_below_at (λ b. is_symbol_byte b && is_delimiter b) (λ b. false) 128 b no_delimiters (symbol_byte_below b h)

wider : (s : List ℕ) → list_all is_name_byte s ≡ true → list_all is_symbol_byte s ≡ true
wider [] h = refl
wider (b ∷ s) h = let p = and_parts (is_name_byte b) (list_all is_name_byte s) h in rw (p.0, wider s p.1) refl

part_bytes : (s : List ℕ) → is_part s ≡ true → list_all is_symbol_byte s ≡ true
part_bytes s h = wider s (and_parts (begins_part s) (list_all is_name_byte s) h).1

parts_bytes : (s : List ℕ) → is_part (before_first is_slash s) ≡ true → is_part (after_first is_slash s) ≡ true → list_all is_symbol_byte s ≡ true
parts_bytes s h k =
    elim (cases_lt (position_or_len is_slash s) (length s)) [
      | inl p ↦ let slash : is_slash (get_or s (position_or_len is_slash s) 0) ≡ true = passes_at_first is_slash s 0 p in
          let byte : is_symbol_byte (get_or s (position_or_len is_slash s) 0) ≡ true = or_right (is_name_byte (get_or s (position_or_len is_slash s) 0)) _ slash in
          rw (split_at_first is_slash s 0 p, list_all-append) (rw (part_bytes (before_first is_slash s) h, byte, part_bytes (after_first is_slash s) k) refl)
      | inr p ↦ let none : after_first is_slash s ≡ [] = drop_all (position_or_len is_slash s + 1) s (omega arith) in let e : false ≡ true = sym (ap is_part none) ∙ k in absurd cc
    ]

name_bytes : (s : List ℕ) → is_name s ≡ true → list_all is_symbol_byte s ≡ true
unfolding is_name
name_bytes s h =
    elim (or_cases (is_part s) (is_part (before_first is_slash s) && is_part (after_first is_slash s)) h) [
      | inl p ↦ part_bytes s p
      | inr p ↦ let q = and_parts (is_part (before_first is_slash s)) (is_part (after_first is_slash s)) p in parts_bytes s q.0 q.1
    ]

bytes_same : (xs ys : List ℕ) → bytes_eq xs ys ≡ true → xs ≡ ys
bytes_same [] [] h = refl
bytes_same [] (y ∷ ys) h = absurd cc
bytes_same (x ∷ xs) [] h = absurd cc
bytes_same (x ∷ xs) (y ∷ ys) h = let p = and_parts (x == y) (bytes_eq xs ys) h in λ i. eqb-true x y p.0 i ∷ bytes_same xs ys p.1 i

slash_byte : list_all is_symbol_byte (47 ∷ []) ≡ true
unfolding is_name_byte
slash_byte = refl

symbol_bytes : (s : List ℕ) → is_symbol s ≡ true → list_all is_symbol_byte s ≡ true
symbol_bytes s h =
    elim (or_cases (is_name s && not (is_word s)) (bytes_eq s (codes "/")) h) [
      | inl p ↦ name_bytes s (and_parts (is_name s) (not (is_word s)) p).0
      | inr p ↦ rw (bytes_same s (codes "/") p) slash_byte
    ]

bytes_inside : (s : List ℕ) → list_all is_symbol_byte s ≡ true → Inside s
bytes_inside [] h = tt
bytes_inside (b ∷ s) h = let p = and_parts (is_symbol_byte b) (list_all is_symbol_byte s) h in (symbol_byte_inside b p.0, bytes_inside s p.1)

colon_inside : is_delimiter 58 ≡ false
unfolding is_delimiter
colon_inside = refl

pub keyword_inside : (s : List ℕ) → IsTrue (is_keyword s) → Inside (58 ∷ s)
keyword_inside s h = (colon_inside, bytes_inside s (name_bytes s h))

pub symbol_inside : (s : List ℕ) → IsTrue (is_symbol s) → Inside s
symbol_inside s h = bytes_inside s (symbol_bytes s h)

abbrev pub is_ascii_byte : ℕ → Bool
is_ascii_byte b = nat_lt b 128

bytes_ascii : (s : List ℕ) → list_all is_symbol_byte s ≡ true → list_all is_ascii_byte s ≡ true
bytes_ascii [] h = refl
bytes_ascii (b ∷ s) h = let p = and_parts (is_symbol_byte b) (list_all is_symbol_byte s) h in rw (lt-ltb b 128 (symbol_byte_below b p.0), bytes_ascii s p.1) refl

pub keyword_ascii : (s : List ℕ) → IsTrue (is_keyword s) → list_all is_ascii_byte s ≡ true
keyword_ascii s h = bytes_ascii s (name_bytes s h)

pub symbol_ascii : (s : List ℕ) → IsTrue (is_symbol s) → list_all is_ascii_byte s ≡ true
symbol_ascii s h = bytes_ascii s (symbol_bytes s h)
