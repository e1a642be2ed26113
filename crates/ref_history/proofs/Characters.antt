-- What is shown of a text has no hidden character, but for the ends of lines.
use Rattle.std.proofs.Common.{◌≡◌, ◌∙◌, ℕ, ◌<◌, ◌%◌, ◌==◌, ◌&&◌, ◌||◌, not, nat_lt, nat_le, Bool, true, false, if◌then◌else◌, List, [], ◌∷◌, ◌++◌, map, length, refl, ap, sym, arith, IsUtf8}
use Rattle.std.proofs.lemmas.Bool.Decides.{nat_tests}
use Rattle.std.proofs.lemmas.List.Folds.{list_all-append}
use Rattle.std.proofs.lemmas.Str.{chars-append, chars-encodes, IsUtf8-append, IsUtf8-nil, chars-nil, chars_past_char, utf8_lossy-IsUtf8}
use Rattle.std.proofs.lemmas.Str.Ascii.{IsAscii-cons, IsAscii-nil, encodes-IsAscii}
use Rattle.std.specs.Char.{encode_utf8}
use Rattle.std.specs.Int.{is_in_range}
use Rattle.std.specs.List.{list_all}
use Rattle.std.specs.Str.{IsAscii, chars, encode_utf8_all, all_scalars}
use Rattle.std.specs.Str.Lossy.{utf8_lossy}
use lib.Utf8.{scalar}
use Rattle.ref_history.specs.Visible.{is_blank, is_control, is_hidden, is_mark, is_none, is_printable, is_shown, is_visible, line, visible, visible_char}

and_parts : (a b : Bool) → (a && b) ≡ true → (a ≡ true) × (b ≡ true)
and_parts true b e = (refl, e)
and_parts false b e = absurd cc

neither : (a b : Bool) → (a || b) ≡ false → (a ≡ false) × (b ≡ false)
neither true b e = absurd cc
neither false b e = (refl, e)

-- ---- characters

shown_by : (c : ℕ) (blank hidden : Bool) → is_hidden c ≡ hidden → is_shown (if blank then 32 else if hidden then 63 else c) ≡ true
shown_by c true hidden is = refl
shown_by c false true is = refl
shown_by c false false is = ap (λ b. not b || c == 10) is

char_shown : (c : ℕ) → is_shown (visible_char c) ≡ true
unfolding visible_char
char_shown c = shown_by c (is_blank c) (is_hidden c) refl

past_surrogates : (c : ℕ) (low : Bool) → nat_lt c 55296 ≡ low → is_in_range 0xD800 0xDFFF c ≡ false → nat_lt 0x10FFFF c ≡ false → scalar c ≡ true
past_surrogates c low is range last = grind (arith, nat_tests)

none_past : (c : ℕ) → is_none c ≡ false → scalar c ≡ true
none_past c none =
    let r = neither (is_in_range 0xD800 0xDFFF c || is_in_range 0xFDD0 0xFDEF c || nat_le 0xFFFE (c % 0x10000)) (nat_lt 0x10FFFF c) none in
    let s = neither (is_in_range 0xD800 0xDFFF c || is_in_range 0xFDD0 0xFDEF c) (nat_le 0xFFFE (c % 0x10000)) r.0 in
    let t = neither (is_in_range 0xD800 0xDFFF c) (is_in_range 0xFDD0 0xFDEF c) s.0 in
    past_surrogates c (nat_lt c 55296) refl t.0 r.1

-- what isn't hidden is a character
not_hidden : (c : ℕ) (past : Bool) → nat_le 0x7F c ≡ past → is_hidden c ≡ false → scalar c ≡ true
not_hidden c false past is = grind (arith, nat_tests)
not_hidden c true past is =
    let p = neither (nat_lt c 32) (nat_le 0x7F c && (is_control c || is_mark c || is_none c)) is in
    let q : (is_control c || is_mark c || is_none c) ≡ false = sym (ap (λ b. b && (is_control c || is_mark c || is_none c)) past) ∙ p.1 in
    none_past c (neither (is_control c || is_mark c) (is_none c) q).1

scalar_by : (c : ℕ) (blank hidden : Bool) → is_hidden c ≡ hidden → scalar (if blank then 32 else if hidden then 63 else c) ≡ true
scalar_by c true hidden is = refl
scalar_by c false true is = refl
scalar_by c false false is = not_hidden c (nat_le 0x7F c) refl is

char_scalar : (c : ℕ) → scalar (visible_char c) ≡ true
unfolding visible_char
char_scalar c = scalar_by c (is_blank c) (is_hidden c) refl

all_shown : (cs : List ℕ) → list_all is_shown (map visible_char cs) ≡ true
all_shown [] = refl
all_shown (c ∷ cs) = ap (λ b. b && list_all is_shown (map visible_char cs)) (char_shown c) ∙ all_shown cs

all_scalar : (cs : List ℕ) → all_scalars (map visible_char cs) ≡ true
all_scalar [] = refl
all_scalar (c ∷ cs) = ap (λ b. b && all_scalars (map visible_char cs)) (char_scalar c) ∙ all_scalar cs

-- ---- texts

abbrev pub IsFine : List ℕ → Type 0
IsFine text = IsUtf8 text × (is_visible text ≡ true)

pub fine_nil : IsFine []
fine_nil = (IsUtf8-nil, ap (list_all is_shown) chars-nil)

pub fine_append : (xs ys : List ℕ) → IsFine xs → IsFine ys → IsFine (xs ++ ys)
fine_append xs ys x y = (
  IsUtf8-append xs ys x.0 y.0,
  ap (list_all is_shown) (chars-append xs ys x.0) ∙ (list_all-append is_shown (chars xs) (chars ys) ∙ (ap (λ b. b && list_all is_shown (chars ys)) x.1 ∙ y.1)),
)

fine_visible : (text : List ℕ) → IsFine (visible text)
unfolding visible
fine_visible text =
    let cs = chars (utf8_lossy text) in
    ((map visible_char cs, (all_scalar cs, refl)), ap (list_all is_shown) (chars-encodes (map visible_char cs) (all_scalar cs)) ∙ all_shown cs)

fine_newline : IsFine (10 ∷ [])
unfolding chars encode_utf8
fine_newline = ((10 ∷ [], (refl, refl)), refl)

pub fine_line : (text : List ℕ) → IsFine (line text)
fine_line text = fine_append (visible text) (10 ∷ []) (fine_visible text) fine_newline

pub fine_if : (b : Bool) (text : List ℕ) → IsFine text → IsFine (if b then text else [])
fine_if true text fine = fine
fine_if false text fine = fine_nil

-- ---- texts that are shown as they are

printable_below : (b : ℕ) → is_printable b ≡ true → b < 128
printable_below b is = grind (arith, nat_tests)

same_by : (c : ℕ) (blank hidden : Bool) → blank ≡ false → hidden ≡ false → (if blank then 32 else if hidden then 63 else c) ≡ c
same_by c true hidden not_blank not_hidden = absurd cc
same_by c false true not_blank not_hidden = absurd cc
same_by c false false not_blank not_hidden = refl

no_blank : (b : ℕ) → is_printable b ≡ true → is_blank b ≡ false
no_blank b is = grind (arith, nat_tests)

hidden_by : (b : ℕ) (low past : Bool) → low ≡ false → past ≡ false → (low || (past && (is_control b || is_mark b || is_none b))) ≡ false
hidden_by b true past not_low not_past = absurd cc
hidden_by b false true not_low not_past = absurd cc
hidden_by b false false not_low not_past = refl

not_low : (b : ℕ) → is_printable b ≡ true → nat_lt b 32 ≡ false
not_low b is = grind (arith, nat_tests)

not_past : (b : ℕ) → is_printable b ≡ true → nat_le 0x7F b ≡ false
not_past b is = grind (arith, nat_tests)

printable_char : (b : ℕ) → is_printable b ≡ true → visible_char b ≡ b
unfolding visible_char
printable_char b is = same_by b (is_blank b) (is_hidden b) (no_blank b is) (hidden_by b (nat_lt b 32) (nat_le 0x7F b) (not_low b is) (not_past b is))

printable_scalar : (b : ℕ) → is_printable b ≡ true → scalar b ≡ true
printable_scalar b is = grind (arith, nat_tests)

printable_ascii : (text : List ℕ) → list_all is_printable text ≡ true → IsAscii text
printable_ascii [] all = IsAscii-nil
printable_ascii (b ∷ bs) all =
    let p = and_parts (is_printable b) (list_all is_printable bs) all in
    IsAscii-cons b bs (printable_below b p.0) (printable_ascii bs p.1)

printable_scalars : (text : List ℕ) → list_all is_printable text ≡ true → all_scalars text ≡ true
printable_scalars [] all = refl
printable_scalars (b ∷ bs) all =
    let p = and_parts (is_printable b) (list_all is_printable bs) all in
    ap (λ v. v && all_scalars bs) (printable_scalar b p.0) ∙ printable_scalars bs p.1

printable_same : (text : List ℕ) → list_all is_printable text ≡ true → map visible_char text ≡ text
printable_same [] all = refl
printable_same (b ∷ bs) all =
    let p = and_parts (is_printable b) (list_all is_printable bs) all in
    ap (λ c. c ∷ map visible_char bs) (printable_char b p.0) ∙ ap (λ cs. b ∷ cs) (printable_same bs p.1)

pub printable_visible : (text : List ℕ) → list_all is_printable text ≡ true → visible text ≡ text
unfolding visible
printable_visible text all =
    let encoded = encodes-IsAscii text (printable_ascii text all) in
    let scalars = printable_scalars text all in
    let same : utf8_lossy text ≡ text = utf8_lossy-IsUtf8 text (text, (scalars, encoded)) in
    let spelled : chars text ≡ text = ap chars (sym encoded) ∙ chars-encodes text scalars in
    ap (λ bs. encode_utf8_all (map visible_char (chars bs))) same
    ∙ (ap (λ cs. encode_utf8_all (map visible_char cs)) spelled ∙ (ap encode_utf8_all (printable_same text all) ∙ encoded))

-- ---- a loop over characters

pub visible_end : (bs : List ℕ) → length bs ≡ 0 → encode_utf8_all (map visible_char (chars bs)) ≡ []
visible_end [] none = ap (λ cs. encode_utf8_all (map visible_char cs)) chars-nil
visible_end (b ∷ bs) none = absurd (omega arith)

pub visible_more : (bs rest : List ℕ) (c : ℕ) → IsUtf8 bs → bs ≡ encode_utf8 c ++ rest
    → encode_utf8_all (map visible_char (chars bs)) ≡ encode_utf8 (visible_char c) ++ encode_utf8_all (map visible_char (chars rest))
visible_more bs rest c utf8 parts = ap (λ cs. encode_utf8_all (map visible_char cs)) (chars_past_char bs rest c utf8 parts)

-- nothing is written yet
pub visible_begin : (text written whole : List ℕ) → written ≡ [] → whole ≡ utf8_lossy text → written ++ encode_utf8_all (map visible_char (chars whole)) ≡ visible text
unfolding visible
visible_begin text written whole none is =
    ap (λ bs. bs ++ encode_utf8_all (map visible_char (chars whole))) none ∙ ap (λ bs. encode_utf8_all (map visible_char (chars bs))) is
