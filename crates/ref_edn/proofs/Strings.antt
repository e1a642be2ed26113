-- Strings: what is read as one is one, and the other way round.
use Rattle.std.proofs.Common.{◌≡◌, ℕ, zero, suc, ◌+◌, ◌*◌, ◌<◌, ◌≤◌, true, false, cond, List, [], ◌∷◌, ◌++◌, length, drop, Option, Some, None, Result, Ok, refl, sym, ap, subst, ◌∙◌, arith, inl, inr, append_assoc, lit<}
use Rattle.std.specs.Prelude.{◌==◌, ◌&&◌, nat_lt, IsUtf8, encode_utf8}
use Rattle.std.specs.Char.{digit_value, IsScalar}
use Rattle.std.specs.Str.{is_utf8}
use Rattle.std.proofs.lemmas.Bool.{eqb-true, ltb-true, lt-ltb, le-ltb, cond-true, cond-false, and_parts, cases_Bool, false_from_ne_true}
use Rattle.std.proofs.lemmas.Bool.Decides.{nat_tests}
use Rattle.std.proofs.lemmas.List.{append-nil}
use Rattle.std.proofs.lemmas.Str.{IsUtf8-append, IsUtf8-encode, is_utf8-from_IsUtf8, IsUtf8-from_is_utf8}
use Rattle.ref_edn.specs.declared.faults.Fault.{Fault}
use Rattle.ref_edn.specs.declared.faults.Flaw.TheVariants.{EndsEarly, BadEscape, NotUtf8}
use Rattle.ref_value.specs.Edn.{Edn, string}
use Rattle.ref_edn.specs.Grammar.{Escape, tab, return, newline, backslash, quote, backspace, form_feed, NamesChar, Body, close, plain, escape, unicode, Element, quoted}
use Rattle.ref_edn.specs.Faults.{◌>>=◌, fault}
use Rattle.ref_edn.specs.ReadTokens.{escape_of, are_hex, hex_value, is_surrogate, hex_at, letter_at, escape_at, with_bytes, body_with, body_at, string_at}
use Rattle.ref_edn.proofs.Outcomes.{chosen, ok_is, fault_isnt_ok, bind_ok}
use Rattle.ref_edn.proofs.Utf8.{utf8_cut, utf8_tail, utf8_one}

-- ---- what is read is a body

some_is : (x y : ℕ) → Some x ≡ Some y → x ≡ y
some_is x y e = cc

escape_same : (e k b c : ℕ) → Escape k b → (e == k) ≡ true → Some b ≡ Some c → Escape e c
escape_same e k b c known is given = subst (λ (n : ℕ). Escape n c) (sym (eqb-true e k is)) (subst (Escape k) (some_is b c given) known)

escape_takes : (e c : ℕ) → escape_of e ≡ Some c → Escape e c
escape_takes e c h =
    elim (chosen (e == 116) (Some 9) (cond (e == 114) (Some 13) (cond (e == 110) (Some 10) (cond (e == 92) (Some 92) (cond (e == 34) (Some 34) (cond (e == 98) (Some 8) (cond (e == 102) (Some 12) None)))))) (Some c) h) [
      | inl p ↦ escape_same e 116 9 c tab p.0 p.1
      | inr p ↦ elim (chosen (e == 114) (Some 13) (cond (e == 110) (Some 10) (cond (e == 92) (Some 92) (cond (e == 34) (Some 34) (cond (e == 98) (Some 8) (cond (e == 102) (Some 12) None))))) (Some c) p.1) [
        | inl p ↦ escape_same e 114 13 c return p.0 p.1
        | inr p ↦ elim (chosen (e == 110) (Some 10) (cond (e == 92) (Some 92) (cond (e == 34) (Some 34) (cond (e == 98) (Some 8) (cond (e == 102) (Some 12) None)))) (Some c) p.1) [
          | inl p ↦ escape_same e 110 10 c newline p.0 p.1
          | inr p ↦ elim (chosen (e == 92) (Some 92) (cond (e == 34) (Some 34) (cond (e == 98) (Some 8) (cond (e == 102) (Some 12) None))) (Some c) p.1) [
            | inl p ↦ escape_same e 92 92 c backslash p.0 p.1
            | inr p ↦ elim (chosen (e == 34) (Some 34) (cond (e == 98) (Some 8) (cond (e == 102) (Some 12) None)) (Some c) p.1) [
              | inl p ↦ escape_same e 34 34 c quote p.0 p.1
              | inr p ↦ elim (chosen (e == 98) (Some 8) (cond (e == 102) (Some 12) None) (Some c) p.1) [
                | inl p ↦ escape_same e 98 8 c backspace p.0 p.1
                | inr p ↦ elim (chosen (e == 102) (Some 12) None (Some c) p.1) [
                  | inl p ↦ escape_same e 102 12 c form_feed p.0 p.1
                  | inr p ↦ absurd cc
                ]
              ]
            ]
          ]
        ]
      ]
    ]

-- a number of four hexadecimal digits, where it is no surrogate
scalar_from : (c : ℕ) → c < 0x1_0000 → is_surrogate c ≡ false → IsScalar c
scalar_from c small h = grind (arith, nat_tests)

four_digits : (a b c d : ℕ) → a < 16 → b < 16 → c < 16 → d < 16 → ((a * 16 + b) * 16 + c) * 16 + d < 0x1_0000
four_digits a b c d p q r s = omega arith

names_char : (h i j k : ℕ) (t : List ℕ) → are_hex (h ∷ i ∷ j ∷ k ∷ t) ≡ true → is_surrogate (hex_value (h ∷ i ∷ j ∷ k ∷ t)) ≡ false → NamesChar h i j k (hex_value (h ∷ i ∷ j ∷ k ∷ t))
names_char h i j k t hex single =
    let three = and_parts (nat_lt (digit_value h) 16 && nat_lt (digit_value i) 16 && nat_lt (digit_value j) 16) (nat_lt (digit_value k) 16) hex in
    let two = and_parts (nat_lt (digit_value h) 16 && nat_lt (digit_value i) 16) (nat_lt (digit_value j) 16) three.0 in
    let one = and_parts (nat_lt (digit_value h) 16) (nat_lt (digit_value i) 16) two.0 in
    let p = ltb-true (digit_value h) 16 one.0 in
    let q = ltb-true (digit_value i) 16 one.1 in
    let r = ltb-true (digit_value j) 16 two.1 in
    let s = ltb-true (digit_value k) 16 three.1 in
    record {
      first = p;
      second = q;
      third = r;
      fourth = s;
      value = refl;
      scalar = scalar_from (hex_value (h ∷ i ∷ j ∷ k ∷ t)) (four_digits (digit_value h) (digit_value i) (digit_value j) (digit_value k) p q r s) single;
    }

-- what an escape stands for, put before a body
abbrev Extends : List ℕ → List ℕ × List ℕ → Type 0
Extends text y = (s rest : List ℕ) → Body y.1 s rest → Body (92 ∷ text) (y.0 ++ s) rest

abbrev hex_chosen : List ℕ → List ℕ → Result (List ℕ × List ℕ) Fault
hex_chosen at text = cond (are_hex text) (cond (is_surrogate (hex_value text)) (fault BadEscape at) (Ok (encode_utf8 (hex_value text), drop 4 text))) (fault BadEscape at)

hex_chosen_takes : (at text : List ℕ) (h i j k : ℕ) (t : List ℕ) → h ∷ i ∷ j ∷ k ∷ t ≡ text → (y : List ℕ × List ℕ) → hex_chosen at text ≡ Ok y → Extends (117 ∷ text) y
hex_chosen_takes at text h i j k t is y e s rest d =
    let four : List ℕ = h ∷ i ∷ j ∷ k ∷ t in
    let e2 : hex_chosen at four ≡ Ok y = ap (hex_chosen at) is ∙ e in
    elim (chosen (are_hex four) (cond (is_surrogate (hex_value four)) (fault BadEscape at) (Ok (encode_utf8 (hex_value four), t))) (fault BadEscape at) (Ok y) e2) [
      | inl p ↦ elim (chosen (is_surrogate (hex_value four)) (fault BadEscape at) (Ok (encode_utf8 (hex_value four), t)) (Ok y) p.1) [
        | inl q ↦ fault_isnt_ok BadEscape at y q.1
        | inr q ↦
            let same = ok_is (encode_utf8 (hex_value four), t) y q.1 in
            let all : Body (92 ∷ 117 ∷ four) (encode_utf8 (hex_value four) ++ s) rest = unicode (names_char h i j k t p.0 q.0) (subst (λ (z : List ℕ × List ℕ). Body z.1 s rest) (sym same) d) in
            subst (λ (z : List ℕ). Body (92 ∷ 117 ∷ z) (y.0 ++ s) rest) is (subst (λ (z : List ℕ × List ℕ). Body (92 ∷ 117 ∷ four) (z.0 ++ s) rest) same all)
      ]
      | inr p ↦ fault_isnt_ok BadEscape at y p.1
    ]

-- four bytes at the front
has_four : (text : List ℕ) → nat_lt (length text) 4 ≡ false → (h : ℕ) × (i : ℕ) × (j : ℕ) × (k : ℕ) × (t : List ℕ) × (h ∷ i ∷ j ∷ k ∷ t ≡ text)
has_four [] e = absurd cc
has_four (h ∷ []) e = absurd cc
has_four (h ∷ i ∷ []) e = absurd cc
has_four (h ∷ i ∷ j ∷ []) e = absurd cc
has_four (h ∷ i ∷ j ∷ k ∷ t) e = (h, i, j, k, t, refl)

hex_takes : (at text : List ℕ) (y : List ℕ × List ℕ) → hex_at at text ≡ Ok y → Extends (117 ∷ text) y
unfolding hex_at
hex_takes at text y e =
    elim (chosen (nat_lt (length text) 4) (fault EndsEarly []) (hex_chosen at text) (Ok y) e) [
      | inl p ↦ fault_isnt_ok EndsEarly [] y p.1
      | inr p ↦ let f = has_four text p.0 in hex_chosen_takes at text f.0 f.1 f.2 f.3 f.4 f.5 y p.1
    ]

letter_takes : (at text : List ℕ) (e : ℕ) (o : Option ℕ) (y : List ℕ × List ℕ) → escape_of e ≡ o → letter_at at text o ≡ Ok y → Extends (e ∷ text) y
letter_takes at text e None y is h = fault_isnt_ok BadEscape at y h
letter_takes at text e (Some c) y is h = λ s rest d.
    let same = ok_is (c ∷ [], text) y h in
    subst (λ (z : List ℕ × List ℕ). Body (92 ∷ e ∷ text) (z.0 ++ s) rest) same (escape (escape_takes e c is) (subst (λ (z : List ℕ × List ℕ). Body z.1 s rest) (sym same) d))

escape_at_takes : (at text : List ℕ) (y : List ℕ × List ℕ) → escape_at at text ≡ Ok y → Extends text y
escape_at_takes at [] y e = fault_isnt_ok EndsEarly [] y e
escape_at_takes at (e ∷ text) y h =
    elim (chosen (e == 117) (hex_at at text) (letter_at at text (escape_of e)) (Ok y) h) [
      | inl p ↦ subst (λ (n : ℕ). Extends (n ∷ text) y) (sym (eqb-true e 117 p.0)) (hex_takes at text y p.1)
      | inr p ↦ letter_takes at text e (escape_of e) y refl p.1
    ]

-- what a first byte and the body behind it are
with_takes : (turns : ℕ) (text : List ℕ) (x : List ℕ × List ℕ) → body_with turns text ≡ Ok x → Body text x.0 x.1
unfolding body_with
with_takes zero text x e = fault_isnt_ok EndsEarly [] x e
with_takes (suc turns) [] x e = fault_isnt_ok EndsEarly [] x e
with_takes (suc turns) (b ∷ text) x e =
    elim (chosen (b == 34) (Ok ([], text)) (cond (b == 92) (escape_at (b ∷ text) text >>= λ y. with_bytes y.0 (body_with turns y.1)) (with_bytes (b ∷ []) (body_with turns text))) (Ok x) e) [
      | inl p ↦ subst (λ (n : ℕ). Body (n ∷ text) x.0 x.1) (sym (eqb-true b 34 p.0)) (subst (λ (z : List ℕ × List ℕ). Body (34 ∷ text) z.0 z.1) (ok_is ([], text) x p.1) close)
      | inr p ↦ elim (chosen (b == 92) (escape_at (b ∷ text) text >>= λ y. with_bytes y.0 (body_with turns y.1)) (with_bytes (b ∷ []) (body_with turns text)) (Ok x) p.1) [
        | inl q ↦
            let y = bind_ok (escape_at (b ∷ text) text) (λ y. with_bytes y.0 (body_with turns y.1)) x q.1 in
            let z = bind_ok (body_with turns y.0.1) (λ z. Ok (y.0.0 ++ z.0, z.1)) x y.2 in
            let all = escape_at_takes (b ∷ text) text y.0 y.1 z.0.0 z.0.1 (with_takes turns y.0.1 z.0 z.1) in
            subst (λ (n : ℕ). Body (n ∷ text) x.0 x.1) (sym (eqb-true b 92 q.0)) (subst (λ (w : List ℕ × List ℕ). Body (92 ∷ text) w.0 w.1) (ok_is (y.0.0 ++ z.0.0, z.0.1) x z.2) all)
        | inr q ↦
            let z = bind_ok (body_with turns text) (λ z. Ok (b ∷ z.0, z.1)) x q.1 in
            subst (λ (w : List ℕ × List ℕ). Body (b ∷ text) w.0 w.1) (ok_is (b ∷ z.0.0, z.0.1) x z.2) (plain p.0 q.0 (with_takes turns text z.0 z.1))
      ]
    ]

-- A body that was read is one.
pub body_takes : (text : List ℕ) (x : List ℕ × List ℕ) → body_at text ≡ Ok x → Body text x.0 x.1
unfolding body_at
body_takes text x e = with_takes (length text) text x e

-- ---- a body is read

escape_again : {e b : ℕ} → Escape e b → ((e == 117) ≡ false) × (escape_of e ≡ Some b)
escape_again tab = (refl, refl)
escape_again return = (refl, refl)
escape_again newline = (refl, refl)
escape_again backslash = (refl, refl)
escape_again quote = (refl, refl)
escape_again backspace = (refl, refl)
escape_again form_feed = (refl, refl)

four_hex : (a b c d : ℕ) → a < 16 → b < 16 → c < 16 → d < 16 → (nat_lt a 16 && nat_lt b 16 && nat_lt c 16 && nat_lt d 16) ≡ true
four_hex a b c d p q r s = rw (lt-ltb a 16 p, lt-ltb b 16 q, lt-ltb c 16 r, lt-ltb d 16 s) refl

no_surrogate : (c : ℕ) → IsScalar c → is_surrogate c ≡ false
no_surrogate c h = grind (arith, nat_tests)

pub hex_again : (at text : List ℕ) (h i j k c : ℕ) → NamesChar h i j k c → hex_at at (h ∷ i ∷ j ∷ k ∷ text) ≡ Ok (encode_utf8 c, text)
unfolding hex_at
hex_again at text h i j k c n =
    let four : List ℕ = h ∷ i ∷ j ∷ k ∷ text in
    let long : nat_lt (length four) 4 ≡ false = le-ltb (length four) 4 (omega arith) in
    let hex : are_hex four ≡ true = four_hex (digit_value h) (digit_value i) (digit_value j) (digit_value k) n.first n.second n.third n.fourth in
    let single : is_surrogate (hex_value four) ≡ false = ap is_surrogate (sym n.value) ∙ no_surrogate c n.scalar in
    let found : Result (List ℕ × List ℕ) Fault = Ok (encode_utf8 (hex_value four), text) in
    cond-false (nat_lt (length four) 4) (fault EndsEarly []) (hex_chosen at four) long ∙ cond-true (are_hex four) (cond (is_surrogate (hex_value four)) (fault BadEscape at) found) (fault BadEscape at) hex
    ∙ cond-false (is_surrogate (hex_value four)) (fault BadEscape at) found single ∙ ap (λ (z : ℕ). Ok (encode_utf8 z, text)) (sym n.value)

-- digits that name no character
pub hex_unnamed : (at text : List ℕ) (h i j k : ℕ) → ((c : ℕ) → ¬ NamesChar h i j k c) → hex_at at (h ∷ i ∷ j ∷ k ∷ text) ≡ fault BadEscape at
unfolding hex_at
hex_unnamed at text h i j k none =
    let four : List ℕ = h ∷ i ∷ j ∷ k ∷ text in
    let long : nat_lt (length four) 4 ≡ false = le-ltb (length four) 4 (omega arith) in
    let found : Result (List ℕ × List ℕ) Fault = Ok (encode_utf8 (hex_value four), text) in
    cond-false (nat_lt (length four) 4) (fault EndsEarly []) (hex_chosen at four) long
    ∙ elim (cases_Bool (are_hex four)) [
      | inl hex ↦ cond-true (are_hex four) (cond (is_surrogate (hex_value four)) (fault BadEscape at) found) (fault BadEscape at) hex
          ∙ elim (cases_Bool (is_surrogate (hex_value four))) [
            | inl e ↦ cond-true (is_surrogate (hex_value four)) (fault BadEscape at) found e
            | inr e ↦ absurd (none (hex_value four) (names_char h i j k text hex e))
          ]
      | inr e ↦ cond-false (are_hex four) (cond (is_surrogate (hex_value four)) (fault BadEscape at) found) (fault BadEscape at) e
    ]

pub body_shorter : {text s rest : List ℕ} → Body text s rest → length rest < length text
body_shorter close = omega arith
body_shorter (plain p q d) = let h = body_shorter d in omega arith
body_shorter (escape e d) = let h = body_shorter d in omega arith
body_shorter (unicode n d) = let h = body_shorter d in omega arith

with_again : {text s rest : List ℕ} → Body text s rest → (turns : ℕ) → length text ≤ turns → body_with turns text ≡ Ok (s, rest)
unfolding body_with
with_again close zero h = absurd (omega arith)
with_again close (suc turns) h = refl
with_again (plain p q d) zero h = absurd (omega arith)
with_again (plain p q d) (suc turns) h =
    let r = with_again d turns (omega arith) in rw (p, q, r) refl
with_again (escape e d) zero h = absurd (omega arith)
with_again (escape e d) (suc turns) h =
    let p = escape_again e in
    let r = with_again d turns (omega arith) in rw (p.0, p.1, r) refl
with_again (unicode n d) zero h = absurd (omega arith)
with_again (unicode {h} {i} {j} {k} {c} {text} n d) (suc turns) l =
    let r = with_again d turns (omega arith) in
    rw (hex_again (92 ∷ 117 ∷ h ∷ i ∷ j ∷ k ∷ text) text h i j k c n, r) refl

pub body_again : {text s rest : List ℕ} → Body text s rest → body_at text ≡ Ok (s, rest)
unfolding body_at
body_again {text} d = with_again d (length text) (omega arith)

-- ---- strings in a text in UTF-8

escape_small : {e b : ℕ} → Escape e b → (e < 128) × (b < 128)
escape_small tab = (lit< tt, lit< tt)
escape_small return = (lit< tt, lit< tt)
escape_small newline = (lit< tt, lit< tt)
escape_small backslash = (lit< tt, lit< tt)
escape_small quote = (lit< tt, lit< tt)
escape_small backspace = (lit< tt, lit< tt)
escape_small form_feed = (lit< tt, lit< tt)

digit_small : (b : ℕ) → digit_value b < 16 → b < 128
digit_small b h = grind (arith, nat_tests)

-- Of what is to be cut only the front is plain, and where it ends is not known before the next quote or escape.
cut_body : {text s rest : List ℕ} → Body text s rest → (front : List ℕ) → IsUtf8 (front ++ text) → IsUtf8 (front ++ s) × IsUtf8 rest
cut_body (close {rest}) front u =
    let p = utf8_cut front 34 rest (lit< tt) u in
    (rw append-nil p.0, utf8_tail 34 rest (lit< tt) p.1)
cut_body (plain {b} {text} {s} {rest} p q d) front u =
    let r = cut_body d (front ++ b ∷ []) (rw append_assoc u) in
    (rw append_assoc at r.0, r.1)
cut_body (escape {e} {b} {text} {s} {rest} k d) front u =
    let small = escape_small k in
    let p = utf8_cut front 92 (e ∷ text) (lit< tt) u in
    let r = cut_body d [] (utf8_tail e text small.0 (utf8_tail 92 (e ∷ text) (lit< tt) p.1)) in
    (IsUtf8-append front (b ∷ s) p.0 (utf8_one b s small.1 r.0), r.1)
cut_body (unicode {h} {i} {j} {k} {c} {text} {s} {rest} n d) front u =
    let p = utf8_cut front 92 (117 ∷ h ∷ i ∷ j ∷ k ∷ text) (lit< tt) u in
    let a = utf8_tail 117 (h ∷ i ∷ j ∷ k ∷ text) (lit< tt) (utf8_tail 92 (117 ∷ h ∷ i ∷ j ∷ k ∷ text) (lit< tt) p.1) in
    let b = utf8_tail i (j ∷ k ∷ text) (digit_small i n.second) (utf8_tail h (i ∷ j ∷ k ∷ text) (digit_small h n.first) a) in
    let r = cut_body d [] (utf8_tail k text (digit_small k n.fourth) (utf8_tail j (k ∷ text) (digit_small j n.third) b)) in
    (IsUtf8-append front (encode_utf8 c ++ s) p.0 (IsUtf8-append (encode_utf8 c) s (IsUtf8-encode c n.scalar) r.0), r.1)

-- The content of a string in a text in UTF-8 is UTF-8, and so is what follows it.
pub body_utf8 : {text s rest : List ℕ} → IsUtf8 text → Body text s rest → IsUtf8 s × IsUtf8 rest
body_utf8 u d = cut_body d [] u

pub string_takes : (room : ℕ) (text : List ℕ) (x : Edn × List ℕ) → string_at (34 ∷ text) ≡ Ok x → Element room (34 ∷ text) x.0 x.1
unfolding string_at
string_takes room text x e =
    let y = bind_ok (body_at text) (λ y. cond (is_utf8 y.0) (Ok (string y.0, y.1)) (fault NotUtf8 (34 ∷ text))) x e in
    elim (chosen (is_utf8 y.0.0) (Ok (string y.0.0, y.0.1)) (fault NotUtf8 (34 ∷ text)) (Ok x) y.2) [
      | inl p ↦ subst (λ (z : Edn × List ℕ). Element room (34 ∷ text) z.0 z.1) (ok_is (string y.0.0, y.0.1) x p.1) (quoted (body_takes text y.0 y.1))
      | inr p ↦ fault_isnt_ok NotUtf8 (34 ∷ text) x p.1
    ]

pub string_read : (text s rest : List ℕ) → body_at (drop 1 text) ≡ Ok (s, rest) → IsUtf8 s → string_at text ≡ Ok (string s, rest)
unfolding string_at
string_read text s rest e u = rw (e, is_utf8-from_IsUtf8 s u) refl

pub string_again : {text s rest : List ℕ} → IsUtf8 (34 ∷ text) → Body text s rest → string_at (34 ∷ text) ≡ Ok (string s, rest)
string_again {text} {s} {rest} u d = let p = body_utf8 (utf8_tail 34 text (lit< tt) u) d in string_read (34 ∷ text) s rest (body_again d) p.0

pub utf8_tested : (bs : List ℕ) → ¬ IsUtf8 bs → is_utf8 bs ≡ false
utf8_tested bs none = false_from_ne_true (is_utf8 bs) (λ e. none (IsUtf8-from_is_utf8 bs e))
