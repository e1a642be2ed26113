-- Whitespace and comments at a place of a text.
use Rattle.std.proofs.Common.{◌≡◌, ℕ, zero, suc, ◌+◌, ◌<◌, Bool, true, false, cond, List, [], ◌∷◌, refl, arith, drop, get_or, length, drop-cons, add-one}
use Rattle.std.specs.Prelude.{◌==◌}
use Rattle.std.proofs.lemmas.List.{drop_all}
use Rattle.memchr.specs.Find.{Nowhere, NoneBefore, Passes, is_byte}
use Rattle.ref_edn.specs.Bytes.{is_space}
use Rattle.ref_edn.specs.Grammar.{from_newline}
use Rattle.ref_edn.specs.ReadParts.{after_spaces}

pub after_spaces_at : (text : List ℕ) (i : ℕ) → i < length text → after_spaces (drop i text) ≡ cond (is_space (get_or text i 0)) (after_spaces (drop (i + 1) text)) (drop i text)
after_spaces_at text i h = rw (add-one, drop-cons text i 0) refl

untrue : (b : Bool) → (b ≡ true → ⊥) → b ≡ false
untrue true h = absurd (h refl)
untrue false h = refl

none : (text : List ℕ) → ((k : ℕ) → k < length text → (get_or text k 0 == 10) ≡ true → ⊥) → from_newline text ≡ []
none [] h = refl
none (b ∷ text) h =
    let e : (b == 10) ≡ false = untrue (b == 10) (h 0 (omega arith)) in
    rw e (none text (λ k below. h (suc k) (omega arith)))

found : (text : List ℕ) (i : ℕ) → i < length text → ((k : ℕ) → k < i → (get_or text k 0 == 10) ≡ true → ⊥) → (get_or text i 0 == 10) ≡ true → from_newline text ≡ drop i text
found [] i below h is = absurd (omega arith)
found (b ∷ text) zero below h is = rw is refl
found (b ∷ text) (suc i) below h is =
    let e : (b == 10) ≡ false = untrue (b == 10) (h 0 (omega arith)) in
    rw e (found text i (omega arith) (λ k less. h (suc k) (omega arith)) is)

pub line_end_none : (text : List ℕ) → Nowhere (Passes (is_byte 10) text) 0 (length text) → from_newline text ≡ drop (length text) text
line_end_none text h = rw (none text (λ k below. h k (omega arith) below), drop_all (length text) text (omega arith)) refl

pub line_end_at : (text : List ℕ) (i : ℕ) → NoneBefore (Passes (is_byte 10) text) 0 (length text) i → Passes (is_byte 10) text i → from_newline text ≡ drop i text
line_end_at text i h is = found text i h.high (λ k below. h.before k (omega arith) below) is
