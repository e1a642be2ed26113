-- Numerals at the front of a text, read in one pass.
use Rattle.std.proofs.Common.{◌≡◌, ℕ, ◌+◌, ◌-◌, ◌*◌, ◌<◌, ◌≤◌, Bool, true, false, cond, List, [], ◌∷◌, ◌++◌, length, refl, sym, ap, subst, ◌∙◌, arith, add-one, take, drop, drop-cons, get_or, length-append, Ok}
use Rattle.std.specs.Prelude.{not, ◌==◌, ◌&&◌, ℤ, pos, FitsSigned}
use Rattle.std.specs.Int.{w64}
use Rattle.std.proofs.Math.IntN.{neg_ℤ}
use Rattle.std.proofs.lemmas.Bool.{and_parts}
use Rattle.std.proofs.lemmas.Bool.Decides.{nat_tests}
use Rattle.std.proofs.lemmas.List.{drop_all}
use Rattle.ref_value.specs.Edn.{int}
use Rattle.ref_edn.specs.Bytes.{is_delimiter, is_digit, is_numeral, all_digits, is_integer, integer_value, value_after, digits_value}
use Rattle.ref_edn.specs.Grammar.{Token, integer_token, Ends, Inside}
use Rattle.ref_edn.specs.Fronts.{front_value, StandsFirst}
use Rattle.ref_edn.specs.ReadTokens.{after_digits, token_at}
use Rattle.ref_edn.proofs.Tails.{tail_is}
use Rattle.ref_edn.proofs.Tokens.{token_again}

pub front_value_at : (n : ℕ) (text : List ℕ) (i : ℕ) → i < length text
    → front_value n (drop i text) ≡ cond (is_digit (get_or text i 0)) (front_value (n * 10 + (get_or text i 0 - 48)) (drop (i + 1) text)) n
front_value_at n text i h = rw (add-one, drop-cons text i 0) refl

pub front_value_all : (n : ℕ) (text : List ℕ) (i : ℕ) → length text ≤ i → front_value n (drop i text) ≡ n
front_value_all n text i h = rw (drop_all i text h) refl

-- the digits at the front
abbrev front_digits : List ℕ → List ℕ
front_digits [] = []
front_digits (b ∷ bs) = cond (is_digit b) (b ∷ front_digits bs) []

front_split : (text : List ℕ) → text ≡ front_digits text ++ after_digits text
front_split [] = refl
front_split (b ∷ bs) = by (is_digit b) (front_split bs)
  where
    by : (is : Bool) → bs ≡ front_digits bs ++ after_digits bs → (b ∷ bs) ≡ cond is (b ∷ front_digits bs) [] ++ cond is (after_digits bs) (b ∷ bs)
    by true h = ap (λ (t : List ℕ). b ∷ t) h
    by false h = refl

front_all : (text : List ℕ) → all_digits (front_digits text) ≡ true
front_all [] = refl
front_all (b ∷ bs) = by (is_digit b) refl (front_all bs)
  where
    by : (is : Bool) → is_digit b ≡ is → all_digits (front_digits bs) ≡ true → all_digits (cond is (b ∷ front_digits bs) []) ≡ true
    by true e h = rw (e, h) refl
    by false e h = refl

front_value_is : (n : ℕ) (text : List ℕ) → value_after n (front_digits text) ≡ front_value n text
front_value_is n [] = refl
front_value_is n (b ∷ bs) = by (is_digit b) (front_value_is (n * 10 + (b - 48)) bs)
  where
    by : (is : Bool) → value_after (n * 10 + (b - 48)) (front_digits bs) ≡ front_value (n * 10 + (b - 48)) bs
        → value_after n (cond is (b ∷ front_digits bs) []) ≡ cond is (front_value (n * 10 + (b - 48)) bs) n
    by true h = h
    by false h = refl

numeral_from : (b : ℕ) (digits : List ℕ) → is_digit b ≡ true → (b == 48) ≡ false → all_digits digits ≡ true → is_numeral (b ∷ digits) ≡ true
numeral_from b [] is isnt all = is
numeral_from b (c ∷ digits) is isnt all = rw (isnt, is, all) refl

zero_first : (text : List ℕ) → 0 < length text → get_or text 0 0 ≡ 48 → Ends (drop 1 text) → StandsFirst 0 text (drop 1 text)
zero_first [] some is ends = absurd (omega arith)
zero_first (b ∷ bs) some is ends = record { word = 48 ∷ []; numeral = refl; number = refl; ends = ends; split = ap (λ (c : ℕ). c ∷ bs) is }

pub numeral_0 : (text : List ℕ) → 0 < length text → get_or text 0 0 ≡ 48 → Ends (take (length text - 1) (drop 1 text)) → StandsFirst 0 text (take (length text - 1) (drop 1 text))
numeral_0 text some is ends =
    let tail = tail_is text some in
    subst (StandsFirst 0 text) (sym tail) (zero_first text some is (subst Ends tail ends))

pub numeral_front : (text : List ℕ) → 0 < length text → is_digit (get_or text 0 0) ≡ true → (get_or text 0 0 == 48) ≡ false → Ends (after_digits text) → StandsFirst (front_value 0 text) text (after_digits text)
numeral_front [] some is isnt ends = absurd (omega arith)
numeral_front (b ∷ bs) some is isnt ends =
    let digits : front_digits (b ∷ bs) ≡ b ∷ front_digits bs = rw is refl in
    record {
      word = b ∷ front_digits bs;
      numeral = numeral_from b (front_digits bs) is isnt (front_all bs);
      number = ap (value_after 0) (sym digits) ∙ front_value_is 0 (b ∷ bs);
      ends = ends;
      split = front_split (b ∷ bs) ∙ ap (λ (t : List ℕ). t ++ after_digits (b ∷ bs)) digits;
    }

digit_inside : (b : ℕ) → is_digit b ≡ true → is_delimiter b ≡ false
unfolding is_delimiter
digit_inside b h = grind (arith, nat_tests)

digit_no_plus : (b : ℕ) → is_digit b ≡ true → (b == 43) ≡ false
digit_no_plus b h = grind (arith, nat_tests)

digit_no_minus : (b : ℕ) → is_digit b ≡ true → (b == 45) ≡ false
digit_no_minus b h = grind (arith, nat_tests)

inside_digits : (digits : List ℕ) → all_digits digits ≡ true → Inside digits
inside_digits [] h = tt
inside_digits (b ∷ digits) h = let p = and_parts (is_digit b) (all_digits digits) h in (digit_inside b p.0, inside_digits digits p.1)

inside_numeral : (word : List ℕ) → is_numeral word ≡ true → Inside word
inside_numeral [] h = tt
inside_numeral (b ∷ []) h = (digit_inside b h, tt)
inside_numeral (b ∷ c ∷ digits) h =
    let p = and_parts (not (b == 48) && is_digit b) (all_digits (c ∷ digits)) h in
    (digit_inside b (and_parts (not (b == 48)) (is_digit b) p.0).1, inside_digits (c ∷ digits) p.1)

numeral_digit : (b : ℕ) (digits : List ℕ) → is_numeral (b ∷ digits) ≡ true → is_digit b ≡ true
numeral_digit b [] h = h
numeral_digit b (c ∷ digits) h = (and_parts (not (b == 48)) (is_digit b) (and_parts (not (b == 48) && is_digit b) (all_digits (c ∷ digits)) h).0).1

numeral_is : (word : List ℕ) → is_numeral word ≡ true → (is_integer word ≡ true) × (integer_value word ≡ pos (digits_value word))
numeral_is [] h = absurd cc
numeral_is (b ∷ digits) h =
    let plus = digit_no_plus b (numeral_digit b digits h) in
    let minus = digit_no_minus b (numeral_digit b digits h) in
    (rw (plus, minus) h, rw (minus, plus) refl)

numeral_some : (word : List ℕ) → is_numeral word ≡ true → 0 < length word
numeral_some [] h = absurd cc
numeral_some (b ∷ digits) h = omega arith

pub first_shorter : (n : ℕ) (text rest : List ℕ) → StandsFirst n text rest → length rest < length text
first_shorter n text rest s = let some = numeral_some s.word s.numeral in rw (s.split, length-append) (omega arith)

-- an integer at the front, without a sign and with one
pub unsigned_at : (n : ℕ) (text rest : List ℕ) (z : ℤ) → StandsFirst n text rest → z ≡ pos n → FitsSigned w64 z → token_at text ≡ Ok (int z, rest)
unsigned_at n text rest z s is fits =
    let i = numeral_is s.word s.numeral in
    let value : integer_value s.word ≡ z = i.1 ∙ ap pos s.number ∙ sym is in
    let t : Token s.word (int z) = subst (λ (y : ℤ). Token s.word (int y)) value (integer_token {t = s.word} i.0 (subst (FitsSigned w64) (sym value) fits)) in
    token_again text s.word rest (int z) t (inside_numeral s.word s.numeral) s.ends s.split

plus_first : (n : ℕ) (text rest : List ℕ) (z : ℤ) → 0 < length text → get_or text 0 0 ≡ 43 → StandsFirst n (drop 1 text) rest → z ≡ pos n → FitsSigned w64 z → token_at text ≡ Ok (int z, rest)
unfolding is_delimiter
plus_first n [] rest z some sign s is fits = absurd (omega arith)
plus_first n (b ∷ bs) rest z some sign s is fits =
    let value : integer_value (43 ∷ s.word) ≡ z = ap pos s.number ∙ sym is in
    let t : Token (43 ∷ s.word) (int z) = subst (λ (y : ℤ). Token (43 ∷ s.word) (int y)) value (integer_token {t = 43 ∷ s.word} s.numeral (subst (FitsSigned w64) (sym value) fits)) in
    token_again (b ∷ bs) (43 ∷ s.word) rest (int z) t (refl, inside_numeral s.word s.numeral) s.ends (rw (sign, s.split) refl)

minus_first : (n : ℕ) (text rest : List ℕ) (z : ℤ) → 0 < length text → get_or text 0 0 ≡ 45 → StandsFirst n (drop 1 text) rest → z ≡ neg_ℤ (pos n) → FitsSigned w64 z → token_at text ≡ Ok (int z, rest)
unfolding is_delimiter
minus_first n [] rest z some sign s is fits = absurd (omega arith)
minus_first n (b ∷ bs) rest z some sign s is fits =
    let value : integer_value (45 ∷ s.word) ≡ z = ap (λ (m : ℕ). neg_ℤ (pos m)) s.number ∙ sym is in
    let t : Token (45 ∷ s.word) (int z) = subst (λ (y : ℤ). Token (45 ∷ s.word) (int y)) value (integer_token {t = 45 ∷ s.word} s.numeral (subst (FitsSigned w64) (sym value) fits)) in
    token_again (b ∷ bs) (45 ∷ s.word) rest (int z) t (refl, inside_numeral s.word s.numeral) s.ends (rw (sign, s.split) refl)

pub plus_at : (n : ℕ) (text rest : List ℕ) (z : ℤ) → 0 < length text → get_or text 0 0 ≡ 43 → StandsFirst n (take (length text - 1) (drop 1 text)) rest → z ≡ pos n → FitsSigned w64 z → token_at text ≡ Ok (int z, rest)
plus_at n text rest z some sign s is fits = plus_first n text rest z some sign (subst (λ (t : List ℕ). StandsFirst n t rest) (tail_is text some) s) is fits

pub minus_at : (n : ℕ) (text rest : List ℕ) (z : ℤ) → 0 < length text → get_or text 0 0 ≡ 45 → StandsFirst n (take (length text - 1) (drop 1 text)) rest → z ≡ neg_ℤ (pos n) → FitsSigned w64 z → token_at text ≡ Ok (int z, rest)
minus_at n text rest z some sign s is fits = minus_first n text rest z some sign (subst (λ (t : List ℕ). StandsFirst n t rest) (tail_is text some) s) is fits
