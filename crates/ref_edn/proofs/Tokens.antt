-- Tokens: what is read as one is one, and the other way round.
use Rattle.std.proofs.Common.{◌≡◌, ◌<◌, length, ℕ, suc, Bool, true, false, cond, List, [], ◌∷◌, ◌++◌, take, drop, Result, Ok, Err, refl, sym, ap, subst, ◌∙◌, arith, inl, inr}
use Rattle.std.specs.Prelude.{◌==◌, ◌||◌, ◌&&◌, not, codes, ℤ, pos, negsuc, FitsSigned}
use Rattle.std.specs.Int.{w64}
use Rattle.std.specs.List.{list_all, before_first, after_first}
use Rattle.std.proofs.lemmas.Bool.{eqb-true, cond-true, cond-false, and_parts, or_parts, or_cases, or_left, or_right, or_from, and_left, and_right, and_cases, and_from, cases_Bool, not-true, both_ways}
use Rattle.std.proofs.lemmas.Bool.Decides.{nat_tests}
use Rattle.std.proofs.lemmas.List.{take-append-drop}
use Rattle.ref_edn.specs.declared.faults.Flaw.{Flaw}
use Rattle.ref_edn.specs.declared.faults.Flaw.TheVariants.{BadNumber, TooLarge, LeftOut, BadName}
use Rattle.ref_value.specs.Edn.{Edn, nil, boolean, int, keyword, symbol, nesting}
use Rattle.ref_edn.specs.Bytes.{is_space, is_close, is_delimiter, is_digit, is_letter, is_sign, is_one_of, token_len, begins_with_digit, is_numeral, all_digits, is_integer, integer_value}
use Rattle.ref_value.specs.Names.{is_name_byte, begins_part, is_part, is_slash, is_name, bytes_eq, nil_text, true_text, false_text, is_word, is_keyword, is_symbol}
use Rattle.ref_edn.specs.Grammar.{Token, nil_token, true_token, false_token, integer_token, keyword_token, symbol_token, Ends, Inside, Element, token}
use Rattle.ref_edn.specs.ReadTokens.{starts_token, starts_number, after_integer, marks_left_out, fits_i64, number_value, starts_keyword, keyword_value, word_value, token_value, or_fault, token_at}
use Rattle.ref_edn.proofs.AsciiNames.{each_of, before_other, bytes_same}
use Rattle.ref_edn.proofs.Outcomes.{chosen, done, ok_is, err_isnt_ok}

-- ---- what is read is a token

pub fits_from_test : (z : ℤ) → fits_i64 z ≡ true → FitsSigned w64 z
fits_from_test (pos n) h = record { sfits = grind (arith, nat_tests) }
fits_from_test (negsuc n) h = record { sfits = grind (arith, nat_tests) }

pub fits_tested : (z : ℤ) → FitsSigned w64 z → fits_i64 z ≡ true
fits_tested (pos n) h = let s = h.sfits in grind (arith, nat_tests)
fits_tested (negsuc n) h = let s = h.sfits in grind (arith, nat_tests)

number_takes : (word : List ℕ) (x : Edn) → number_value word ≡ Ok x → Token word x
unfolding number_value
number_takes word x e =
    elim (chosen (is_integer word) (cond (fits_i64 (integer_value word)) (done {E = Flaw} (int (integer_value word))) (Err TooLarge)) (cond (marks_left_out (after_integer word)) (Err LeftOut) (Err BadNumber)) (Ok x) e) [
      | inl p ↦ elim (chosen (fits_i64 (integer_value word)) (done {E = Flaw} (int (integer_value word))) (Err TooLarge) (Ok x) p.1) [
        | inl q ↦ subst (Token word) (ok_is (int (integer_value word)) x q.1) (integer_token p.0 (fits_from_test (integer_value word) q.0))
        | inr q ↦ err_isnt_ok TooLarge x q.1
      ]
      | inr p ↦ elim (chosen (marks_left_out (after_integer word)) (Err LeftOut) (Err BadNumber) (done x) p.1) [ inl q ↦ err_isnt_ok LeftOut x q.1 | inr q ↦ err_isnt_ok BadNumber x q.1 ]
    ]

keyword_takes : (name : List ℕ) (x : Edn) → keyword_value name ≡ Ok x → Token (58 ∷ name) x
unfolding keyword_value
keyword_takes name x e =
    elim (chosen (is_keyword name) (done {E = Flaw} (keyword name)) (Err BadName) (Ok x) e) [
      | inl p ↦ subst (Token (58 ∷ name)) (ok_is (keyword name) x p.1) (keyword_token p.0)
      | inr p ↦ err_isnt_ok BadName x p.1
    ]

same_word : (word text : List ℕ) (x y : Edn) → Token text x → bytes_eq word text ≡ true → done {E = Flaw} x ≡ Ok y → Token word y
same_word word text x y t is e = subst (λ (w : List ℕ). Token w y) (sym (bytes_same word text is)) (subst (Token text) (ok_is x y e) t)

word_takes : (word : List ℕ) (x : Edn) → word_value word ≡ Ok x → Token word x
unfolding word_value
word_takes word x e =
    let symbols : Result Edn Flaw = cond (is_symbol word) (Ok (symbol word)) (Err BadName) in
    elim (chosen (bytes_eq word nil_text) (done {E = Flaw} nil) (cond (bytes_eq word true_text) (Ok (boolean true)) (cond (bytes_eq word false_text) (Ok (boolean false)) symbols)) (Ok x) e) [
      | inl p ↦ same_word word nil_text nil x nil_token p.0 p.1
      | inr p ↦ elim (chosen (bytes_eq word true_text) (done {E = Flaw} (boolean true)) (cond (bytes_eq word false_text) (Ok (boolean false)) symbols) (Ok x) p.1) [
        | inl q ↦ same_word word true_text (boolean true) x true_token q.0 q.1
        | inr q ↦ elim (chosen (bytes_eq word false_text) (done {E = Flaw} (boolean false)) symbols (Ok x) q.1) [
          | inl r ↦ same_word word false_text (boolean false) x false_token r.0 r.1
          | inr r ↦ elim (chosen (is_symbol word) (done {E = Flaw} (symbol word)) (Err BadName) (Ok x) r.1) [
            | inl s ↦ subst (Token word) (ok_is (symbol word) x s.1) (symbol_token s.0)
            | inr s ↦ err_isnt_ok BadName x s.1
          ]
        ]
      ]
    ]

keyword_front : (word : List ℕ) (x : Edn) → starts_keyword word ≡ true → keyword_value (drop 1 word) ≡ Ok x → Token word x
keyword_front [] x is e = absurd cc
keyword_front (b ∷ name) x is e = subst (λ (n : ℕ). Token (n ∷ name) x) (sym (eqb-true b 58 is)) (keyword_takes name x e)

value_takes : (word : List ℕ) (x : Edn) → token_value word ≡ Ok x → Token word x
unfolding token_value
value_takes word x e =
    elim (chosen (starts_number word) (number_value word) (cond (starts_keyword word) (keyword_value (drop 1 word)) (word_value word)) (Ok x) e) [
      | inl p ↦ number_takes word x p.1
      | inr p ↦ elim (chosen (starts_keyword word) (keyword_value (drop 1 word)) (word_value word) (Ok x) p.1) [ inl q ↦ keyword_front word x q.0 q.1 | inr q ↦ word_takes word x q.1 ]
    ]

token_inside : (text : List ℕ) → Inside (take (token_len text) text)
token_inside [] = tt
token_inside (b ∷ text) =
    elim (is_delimiter b) as (λ t. is_delimiter b ≡ t → Inside (take (cond t 0 (suc (token_len text))) (b ∷ text))) [ true ↦ λ e. tt | false ↦ λ e. (e, token_inside text) ] refl

token_ends : (text : List ℕ) → Ends (drop (token_len text) text)
token_ends [] = tt
token_ends (b ∷ text) =
    elim (is_delimiter b) as (λ t. is_delimiter b ≡ t → Ends (drop (cond t 0 (suc (token_len text))) (b ∷ text))) [ true ↦ λ e. e | false ↦ λ e. token_ends text ] refl

or_fault_ok : (text rest : List ℕ) (r : Result Edn Flaw) (x : Edn × List ℕ) → or_fault text rest r ≡ Ok x → (y : Edn) × (r ≡ Ok y) × ((y, rest) ≡ x)
or_fault_ok text rest (Ok y) x e = (y, refl, ok_is (y, rest) x e)
or_fault_ok text rest (Err kind) x e = absurd cc

-- A token that was read is one.
pub token_takes : (room : ℕ) (text : List ℕ) (x : Edn × List ℕ) → token_at text ≡ Ok x → Element room text x.0 x.1
unfolding token_at
token_takes room text x e =
    let p = or_fault_ok text (drop (token_len text) text) (token_value (take (token_len text) text)) x e in
    subst (λ (y : Edn × List ℕ). Element room text y.0 y.1) p.2 (token (value_takes (take (token_len text) text) p.0 p.1) (token_inside text) (token_ends text) (sym (take-append-drop (token_len text) text)))

-- ---- a token is read

-- what a name is in front of
record BeginsName (b : ℕ) (bs : List ℕ) : Type 0 where
  starts : starts_token b ≡ true
  no_number : starts_number (b ∷ bs) ≡ false
  no_keyword : (b == 58) ≡ false

abbrev is_name_start : ℕ → Bool
is_name_start b = b == 58 || b == 35 || starts_token b

name_byte_starts : (b : ℕ) → is_name_byte b ≡ true → is_name_start b ≡ true
unfolding is_name_byte starts_token
name_byte_starts b h =
    let others = is_one_of (codes ".*+!-_?$%&=<>/") b in
    elim (or_cases (is_letter b || is_digit b) (is_one_of (codes ".*+!-_?$%&=<>:#") b) h) [
      | inl p ↦ or_right (b == 58 || b == 35) (is_digit b || b == 58 || is_letter b || others) (or_left (is_digit b || b == 58 || is_letter b) others
          (elim (or_cases (is_letter b) (is_digit b) p) [
            | inl l ↦ or_right (is_digit b || b == 58) (is_letter b) l
            | inr d ↦ or_left (is_digit b || b == 58) (is_letter b) (or_left (is_digit b) (b == 58) d)
          ]))
      | inr p ↦ each_of is_name_start (codes ".*+!-_?$%&=<>:#") b p refl
    ]

sign_is_one : (b : ℕ) → is_sign b ≡ true → is_one_of (codes "-+.") b ≡ true
sign_is_one b h =
    elim (or_cases (b == 43) (b == 45) h) [
      | inl e ↦ subst (λ (n : ℕ). is_one_of (codes "-+.") n ≡ true) (sym (eqb-true b 43 e)) refl
      | inr e ↦ subst (λ (n : ℕ). is_one_of (codes "-+.") n ≡ true) (sym (eqb-true b 45 e)) refl
    ]

sign_alone : (b : ℕ) (digit : Bool) → (is_one_of (codes "-+.") b && digit) ≡ false → (is_sign b && digit) ≡ false
sign_alone b digit h =
    elim (cases_Bool (is_sign b)) [
      | inl sign ↦ elim (and_cases (is_one_of (codes "-+.") b) digit h) [ inl e ↦ absurd (both_ways (is_one_of (codes "-+.") b) e (sign_is_one b sign)) | inr e ↦ and_right (is_sign b) digit e ]
      | inr none ↦ and_left (is_sign b) digit none
    ]

starts_only : (b : ℕ) → (b == 58) ≡ false → (b == 35) ≡ false → is_name_start b ≡ true → starts_token b ≡ true
starts_only b colon hash h =
    elim (or_cases (b == 58 || b == 35) (starts_token b) h) [ inl e ↦ absurd (both_ways (b == 58 || b == 35) (or_from (b == 58) (b == 35) colon hash) e) | inr e ↦ e ]

part_begins : (b : ℕ) (bs part : List ℕ) → is_part (b ∷ part) ≡ true → begins_with_digit part ≡ begins_with_digit bs → BeginsName b bs
part_begins b bs part is same =
    let all = and_parts (begins_part (b ∷ part)) (list_all is_name_byte (b ∷ part)) is in
    let two = and_parts (not (is_digit b || b == 58 || b == 35)) (not (is_one_of (codes "-+.") b && begins_with_digit part)) all.0 in
    let hash = or_parts (is_digit b || b == 58) (b == 35) (not-true (is_digit b || b == 58 || b == 35) two.0) in
    let colon = or_parts (is_digit b) (b == 58) hash.0 in
    let alone = sign_alone b (begins_with_digit part) (not-true (is_one_of (codes "-+.") b && begins_with_digit part) two.1) in
    record {
      starts = starts_only b colon.1 hash.1 (name_byte_starts b (and_parts (is_name_byte b) (list_all is_name_byte part) all.1).0);
      no_number = or_from (is_digit b) (is_sign b && begins_with_digit bs) colon.0 (subst (λ (d : Bool). (is_sign b && d) ≡ false) same alone);
      no_keyword = colon.1;
    }

abbrev NameBegins : List ℕ → Type 0
NameBegins [] = ⊥
NameBegins (b ∷ bs) = BeginsName b bs

before_slash : (b : ℕ) (bs : List ℕ) → (b == 47) ≡ true → before_first is_slash (b ∷ bs) ≡ []
before_slash b bs h = rw h refl

begins_before : (bs : List ℕ) → begins_with_digit (before_first is_slash bs) ≡ begins_with_digit bs
begins_before [] = refl
begins_before (b ∷ bs) =
    elim (cases_Bool (b == 47)) [
      | inl e ↦ ap begins_with_digit (before_slash b bs e) ∙ sym (subst (λ (n : ℕ). is_digit n ≡ false) (sym (eqb-true b 47 e)) refl)
      | inr e ↦ ap begins_with_digit (before_other b bs e)
    ]

name_begins : (s : List ℕ) → is_name s ≡ true → NameBegins s
unfolding is_name
name_begins [] h = absurd cc
name_begins (b ∷ bs) h =
    elim (or_cases (is_part (b ∷ bs)) (is_part (before_first is_slash (b ∷ bs)) && is_part (after_first is_slash (b ∷ bs))) h) [
      | inl p ↦ part_begins b bs bs p refl
      | inr p ↦
          let q = and_parts (is_part (before_first is_slash (b ∷ bs))) (is_part (after_first is_slash (b ∷ bs))) p in
          elim (cases_Bool (b == 47)) [
            | inl e ↦ absurd (both_ways (is_part []) refl (subst (λ (z : List ℕ). is_part z ≡ true) (before_slash b bs e) q.0))
            | inr e ↦ part_begins b bs (before_first is_slash bs) (subst (λ (z : List ℕ). is_part z ≡ true) (before_other b bs e) q.0) (begins_before bs)
          ]
    ]

numeral_digit : (b : ℕ) (bs : List ℕ) → is_numeral (b ∷ bs) ≡ true → is_digit b ≡ true
numeral_digit b [] h = h
numeral_digit b (c ∷ bs) h = (and_parts (not (b == 48)) (is_digit b) (and_parts (not (b == 48) && is_digit b) (all_digits (c ∷ bs)) h).0).1

numeral_begins : (bs : List ℕ) → is_numeral bs ≡ true → begins_with_digit bs ≡ true
numeral_begins [] h = absurd cc
numeral_begins (b ∷ bs) h = numeral_digit b bs h

integer_starts : (word : List ℕ) → is_integer word ≡ true → starts_number word ≡ true
integer_starts [] h = absurd cc
integer_starts (b ∷ bs) h =
    elim (chosen (is_sign b) (is_numeral bs) (is_numeral (b ∷ bs)) true h) [
      | inl p ↦ or_right (is_digit b) (is_sign b && begins_with_digit bs) (and_from (is_sign b) (begins_with_digit bs) p.0 (numeral_begins bs p.1))
      | inr p ↦ or_left (is_digit b) (is_sign b && begins_with_digit bs) (numeral_digit b bs p.1)
    ]

name_word : (s : List ℕ) → is_word s ≡ false → is_symbol s ≡ true → word_value s ≡ Ok (symbol s)
unfolding word_value
name_word s word is =
    let third = or_parts (bytes_eq s nil_text || bytes_eq s true_text) (bytes_eq s false_text) word in
    let two = or_parts (bytes_eq s nil_text) (bytes_eq s true_text) third.0 in
    let last : Result Edn Flaw = cond (is_symbol s) (Ok (symbol s)) (Err BadName) in
    cond-false (bytes_eq s nil_text) (Ok nil) (cond (bytes_eq s true_text) (Ok (boolean true)) (cond (bytes_eq s false_text) (Ok (boolean false)) last)) two.0
    ∙ cond-false (bytes_eq s true_text) (Ok (boolean true)) (cond (bytes_eq s false_text) (Ok (boolean false)) last) two.1
    ∙ cond-false (bytes_eq s false_text) (Ok (boolean false)) last third.1 ∙ cond-true (is_symbol s) (Ok (symbol s)) (Err BadName) is

slash_word : word_value (codes "/") ≡ Ok (symbol (codes "/"))
unfolding word_value is_name is_name_byte
slash_word = refl

pub symbol_word : (s : List ℕ) → is_symbol s ≡ true → word_value s ≡ Ok (symbol s)
symbol_word s is =
    elim (or_cases (is_name s && not (is_word s)) (bytes_eq s (codes "/")) is) [
      | inl p ↦ name_word s (not-true (is_word s) (and_parts (is_name s) (not (is_word s)) p).1) is
      | inr p ↦ subst (λ (w : List ℕ). word_value w ≡ Ok (symbol w)) (sym (bytes_same s (codes "/") p)) slash_word
    ]

name_value : (s : List ℕ) → is_name s ≡ true → is_symbol s ≡ true → token_value s ≡ Ok (symbol s)
unfolding token_value
name_value [] name is = absurd (name_begins [] name)
name_value (b ∷ bs) name is =
    let s : List ℕ = b ∷ bs in
    let n = name_begins s name in
    cond-false (starts_number s) (number_value s) (cond (starts_keyword s) (keyword_value bs) (word_value s)) n.no_number ∙ cond-false (starts_keyword s) (keyword_value bs) (word_value s) n.no_keyword
    ∙ symbol_word s is

slash_value : token_value (codes "/") ≡ Ok (symbol (codes "/"))
unfolding token_value word_value is_name is_name_byte
slash_value = refl

symbol_value : (s : List ℕ) → is_symbol s ≡ true → token_value s ≡ Ok (symbol s)
symbol_value s is =
    elim (or_cases (is_name s && not (is_word s)) (bytes_eq s (codes "/")) is) [
      | inl p ↦ name_value s (and_parts (is_name s) (not (is_word s)) p).0 is
      | inr p ↦ subst (λ (w : List ℕ). token_value w ≡ Ok (symbol w)) (sym (bytes_same s (codes "/") p)) slash_value
    ]

value_again : {word : List ℕ} {x : Edn} → Token word x → token_value word ≡ Ok x
unfolding token_value number_value keyword_value word_value
value_again nil_token = refl
value_again true_token = refl
value_again false_token = refl
value_again (integer_token {t} is fits) =
    cond-true (starts_number t) (number_value t) (cond (starts_keyword t) (keyword_value (drop 1 t)) (word_value t)) (integer_starts t is)
    ∙ cond-true (is_integer t) (cond (fits_i64 (integer_value t)) (Ok (int (integer_value t))) (Err TooLarge)) (cond (marks_left_out (after_integer t)) (Err LeftOut) (Err BadNumber)) is
    ∙ cond-true (fits_i64 (integer_value t)) (Ok (int (integer_value t))) (Err TooLarge) (fits_tested (integer_value t) fits)
value_again (keyword_token {s} is) = cond-true (is_keyword s) (Ok (keyword s)) (Err BadName) is
value_again (symbol_token {s} is) = symbol_value s is

token_split : (word rest : List ℕ) → Inside word → Ends rest → (take (token_len (word ++ rest)) (word ++ rest) ≡ word) × (drop (token_len (word ++ rest)) (word ++ rest) ≡ rest)
token_split [] [] inside ends = (refl, refl)
token_split [] (b ∷ rest) inside ends = rw ends (refl, refl)
token_split (b ∷ word) rest inside ends =
    let p : (take (token_len (word ++ rest)) (word ++ rest) ≡ word) × (drop (token_len (word ++ rest)) (word ++ rest) ≡ rest) = token_split word rest inside.1 ends in
    rw inside.0 (ap (λ (w : List ℕ). b ∷ w) p.0, p.1)

pub token_again : (text word rest : List ℕ) (x : Edn) → Token word x → Inside word → Ends rest → text ≡ word ++ rest → token_at text ≡ Ok (x, rest)
unfolding token_at
token_again text word rest x t inside ends e =
    let p = token_split word rest inside ends in
    rw (e, p.0, p.1, value_again t) refl

-- What the first byte of a token is, and what it isn't.
pub record BeginsToken (b : ℕ) : Type 0 where
  pub starts : starts_token b ≡ true
  pub not_space : is_space b ≡ false
  pub not_comment : (b == 59) ≡ false
  pub not_quote : (b == 34) ≡ false
  pub not_hash : (b == 35) ≡ false
  pub not_backslash : (b == 92) ≡ false
  pub not_round : (b == 40) ≡ false
  pub not_square : (b == 91) ≡ false
  pub not_curly : (b == 123) ≡ false
  pub not_close : is_close b ≡ false

-- a byte that begins no token
other : (b c : ℕ) → starts_token b ≡ true → starts_token c ≡ false → (b == c) ≡ false
other b c h none =
    elim (b == c) as (λ t. (b == c) ≡ t → t ≡ false) [ true ↦ λ e. absurd (both_ways (starts_token c) none (subst (λ (n : ℕ). starts_token n ≡ true) (eqb-true b c e) h)) | false ↦ λ e. refl ] refl

pub begins_token : (b : ℕ) → starts_token b ≡ true → BeginsToken b
unfolding starts_token
begins_token b h = record {
  starts = h;
  not_space = rw (other b 32 h refl, other b 9 h refl, other b 10 h refl, other b 13 h refl, other b 12 h refl, other b 44 h refl) refl;
  not_comment = other b 59 h refl;
  not_quote = other b 34 h refl;
  not_hash = other b 35 h refl;
  not_backslash = other b 92 h refl;
  not_round = other b 40 h refl;
  not_square = other b 91 h refl;
  not_curly = other b 123 h refl;
  not_close = rw (other b 41 h refl, other b 93 h refl, other b 125 h refl) refl;
}

abbrev pub StartsToken : List ℕ → Type 0
StartsToken [] = ⊥
StartsToken (b ∷ bs) = BeginsToken b

number_begins : (word : List ℕ) → starts_number word ≡ true → StartsToken word
unfolding starts_token
number_begins [] h = absurd cc
number_begins (b ∷ bs) h =
    let others = is_one_of (codes ".*+!-_?$%&=<>/") b in
    begins_token b
    (elim (or_cases (is_digit b) (is_sign b && begins_with_digit bs) h) [
      | inl d ↦ or_left (is_digit b || b == 58 || is_letter b) others (or_left (is_digit b || b == 58) (is_letter b) (or_left (is_digit b) (b == 58) d))
      | inr p ↦ elim (or_cases (b == 43) (b == 45) (and_parts (is_sign b) (begins_with_digit bs) p).0) [
        | inl e ↦ subst (λ (n : ℕ). starts_token n ≡ true) (sym (eqb-true b 43 e)) refl
        | inr e ↦ subst (λ (n : ℕ). starts_token n ≡ true) (sym (eqb-true b 45 e)) refl
      ]
    ])

name_starts : (s : List ℕ) → is_name s ≡ true → StartsToken s
name_starts [] h = name_begins [] h
name_starts (b ∷ bs) h = let n = name_begins (b ∷ bs) h in begins_token b n.starts

slash_starts : StartsToken (codes "/")
unfolding starts_token
slash_starts = begins_token 47 refl

symbol_starts : (s : List ℕ) → is_symbol s ≡ true → StartsToken s
symbol_starts s is =
    elim (or_cases (is_name s && not (is_word s)) (bytes_eq s (codes "/")) is) [
      | inl p ↦ name_starts s (and_parts (is_name s) (not (is_word s)) p).0
      | inr p ↦ subst StartsToken (sym (bytes_same s (codes "/") p)) slash_starts
    ]

-- A token is not empty.
pub token_starts : {word : List ℕ} {x : Edn} → Token word x → StartsToken word
unfolding starts_token
token_starts nil_token = begins_token 110 refl
token_starts true_token = begins_token 116 refl
token_starts false_token = begins_token 102 refl
token_starts (integer_token {t} is fits) = number_begins t (integer_starts t is)
token_starts (keyword_token is) = begins_token 58 refl
token_starts (symbol_token {s} is) = symbol_starts s is

starts_some : (word : List ℕ) → StartsToken word → 0 < length word
starts_some [] h = absurd h
starts_some (b ∷ bs) h = omega arith

token_flat : {word : List ℕ} {x : Edn} → Token word x → nesting x ≡ 0
token_flat nil_token = refl
token_flat true_token = refl
token_flat false_token = refl
token_flat (integer_token is fits) = refl
token_flat (keyword_token is) = refl
token_flat (symbol_token is) = refl

-- What a token writes is no collection, and a token is not empty.
pub value_flat : (word : List ℕ) (x : Edn) → token_value word ≡ Ok x → (nesting x ≡ 0) × (0 < length word)
value_flat word x e = let t = value_takes word x e in (token_flat t, starts_some word (token_starts t))
