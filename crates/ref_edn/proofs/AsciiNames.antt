-- A name is ASCII.
use Rattle.std.proofs.Common.{◌≡◌, ℕ, ◌+◌, ◌<◌, Bool, true, false, List, [], ◌∷◌, refl, sym, arith, drop, subst, inl, inr, one-add, suc, ap, lit<}
use Rattle.std.specs.Prelude.{◌&&◌, ◌||◌, ◌==◌, nat_lt, codes, not, IsUtf8}
use Rattle.std.specs.List.{list_all, position_or_len, before_first, after_first}
use Rattle.std.proofs.lemmas.Bool.{and_parts, or_cases, cases_Bool, eqb-true, ltb-true}
use Rattle.std.proofs.lemmas.Bool.Decides.{nat_tests}
use Rattle.std.proofs.lemmas.Str.{IsUtf8-nil}
use Rattle.ref_value.specs.Names.{is_name_byte, begins_part, is_part, is_slash, is_name, is_word, is_symbol, bytes_eq}
use Rattle.ref_edn.specs.Bytes.{is_one_of, is_letter, is_digit}
use Rattle.ref_edn.proofs.Utf8.{utf8_one}

pub bytes_same : (xs ys : List ℕ) → bytes_eq xs ys ≡ true → xs ≡ ys
bytes_same [] [] e = refl
bytes_same [] (y ∷ ys) e = absurd cc
bytes_same (x ∷ xs) [] e = absurd cc
bytes_same (x ∷ xs) (y ∷ ys) e = let p = and_parts (x == y) (bytes_eq xs ys) e in λ i. eqb-true x y p.0 i ∷ bytes_same xs ys p.1 i

-- what holds of each byte of a list holds of one that is among them
pub each_of : (p : ℕ → Bool) (bytes : List ℕ) (b : ℕ) → is_one_of bytes b ≡ true → list_all p bytes ≡ true → p b ≡ true
each_of p [] b is all = absurd cc
each_of p (c ∷ bytes) b is all =
    let h = and_parts (p c) (list_all p bytes) all in
    elim (or_cases (c == b) (is_one_of bytes b) is) [ inl e ↦ subst (λ (n : ℕ). p n ≡ true) (eqb-true c b e) h.0 | inr r ↦ each_of p bytes b r h.1 ]

name_byte_small : (b : ℕ) → is_name_byte b ≡ true → b < 128
unfolding is_name_byte
name_byte_small b h =
    elim (or_cases (is_letter b || is_digit b) (is_one_of (codes ".*+!-_?$%&=<>:#") b) h) [
      | inl p ↦ grind (arith, nat_tests)
      | inr p ↦ ltb-true b 128 (each_of (λ c. nat_lt c 128) (codes ".*+!-_?$%&=<>:#") b p refl)
    ]

name_bytes_utf8 : (s : List ℕ) → list_all is_name_byte s ≡ true → IsUtf8 s
name_bytes_utf8 [] h = IsUtf8-nil
name_bytes_utf8 (b ∷ bs) h = let p = and_parts (is_name_byte b) (list_all is_name_byte bs) h in utf8_one b bs (name_byte_small b p.0) (name_bytes_utf8 bs p.1)

pub before_other : (b : ℕ) (bs : List ℕ) → (b == 47) ≡ false → before_first is_slash (b ∷ bs) ≡ b ∷ before_first is_slash bs
before_other b bs h = rw (h, one-add) refl

after_other : (b : ℕ) (bs : List ℕ) → (b == 47) ≡ false → after_first is_slash (b ∷ bs) ≡ after_first is_slash bs
after_other b bs h = let n : ℕ = position_or_len is_slash bs in let e : 1 + n + 1 ≡ suc (n + 1) = omega arith in rw h (ap (λ (k : ℕ). drop k (b ∷ bs)) e)

after_slash : (b : ℕ) (bs : List ℕ) → (b == 47) ≡ true → after_first is_slash (b ∷ bs) ≡ bs
after_slash b bs h = rw h refl

two_parts_utf8 : (s : List ℕ) → list_all is_name_byte (before_first is_slash s) ≡ true → list_all is_name_byte (after_first is_slash s) ≡ true → IsUtf8 s
two_parts_utf8 [] h k = IsUtf8-nil
two_parts_utf8 (b ∷ bs) h k =
    elim (cases_Bool (b == 47)) [
      | inl e ↦ utf8_one b bs (omega (arith, eqb-true b 47 e)) (name_bytes_utf8 bs (subst (λ (z : List ℕ). list_all is_name_byte z ≡ true) (after_slash b bs e) k))
      | inr e ↦
          let first = and_parts (is_name_byte b) (list_all is_name_byte (before_first is_slash bs)) (subst (λ (z : List ℕ). list_all is_name_byte z ≡ true) (before_other b bs e) h) in
          utf8_one b bs (name_byte_small b first.0) (two_parts_utf8 bs first.1 (subst (λ (z : List ℕ). list_all is_name_byte z ≡ true) (after_other b bs e) k))
    ]

part_bytes : (s : List ℕ) → is_part s ≡ true → list_all is_name_byte s ≡ true
part_bytes s h = (and_parts (begins_part s) (list_all is_name_byte s) h).1

pub name_utf8 : (s : List ℕ) → is_name s ≡ true → IsUtf8 s
unfolding is_name
name_utf8 s h =
    elim (or_cases (is_part s) (is_part (before_first is_slash s) && is_part (after_first is_slash s)) h) [
      | inl p ↦ name_bytes_utf8 s (part_bytes s p)
      | inr p ↦
          let q = and_parts (is_part (before_first is_slash s)) (is_part (after_first is_slash s)) p in
          two_parts_utf8 s (part_bytes (before_first is_slash s) q.0) (part_bytes (after_first is_slash s) q.1)
    ]

slash_utf8 : IsUtf8 (codes "/")
slash_utf8 = utf8_one 47 [] (lit< tt) IsUtf8-nil

pub symbol_utf8 : (s : List ℕ) → is_symbol s ≡ true → IsUtf8 s
symbol_utf8 s h =
    elim (or_cases (is_name s && not (is_word s)) (bytes_eq s (codes "/")) h) [
      | inl p ↦ name_utf8 s (and_parts (is_name s) (not (is_word s)) p).0
      | inr p ↦ subst IsUtf8 (sym (bytes_same s (codes "/") p)) slash_utf8
    ]
