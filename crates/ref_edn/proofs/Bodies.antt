-- A string's body as it is read: the bytes so far, and what is left.
use Rattle.std.proofs.Common.{◌≡◌, ℕ, zero, suc, ◌<◌, ◌≤◌, false, List, [], ◌∷◌, ◌++◌, length, take, drop, get_or, Result, Ok, Err, refl, sym, ap, subst, ◌∙◌, arith, append_assoc, Some, None, inl, inr, length-drop}
use Rattle.std.specs.Prelude.{◌==◌, ◌||◌}
use Rattle.std.proofs.lemmas.Bool.{eqb-true, or_parts, or_cases, false_from_ne_true}
use Rattle.std.proofs.lemmas.List.{append-nil, get_or-drop, drop_all}
use Rattle.memchr.specs.Find.{IsFirstByte, is_byte2}
use Rattle.ref_edn.specs.declared.faults.Fault.{Fault}
use Rattle.ref_edn.specs.declared.faults.ReadError.{ReadError}
use Rattle.ref_edn.specs.declared.faults.ReadError.TheVariants as errors
use Rattle.ref_edn.specs.declared.faults.Flaw.TheVariants.{EndsEarly}
use Rattle.ref_edn.specs.Faults.{◌>>=◌, fault, Fails}
use Rattle.ref_edn.specs.ReadTokens.{escape_at, with_bytes, body_with, body_at}

-- The bytes so far and the body of what is left are the whole.
pub record Continues (found rest : List ℕ) (total : Result (List ℕ × List ℕ) Fault) : Type 0 where
  pub turns : ℕ
  pub enough : length rest ≤ turns
  pub same : with_bytes found (body_with turns rest) ≡ total

with_none : (r : Result (List ℕ × List ℕ) Fault) → with_bytes [] r ≡ r
with_none (Ok x) = refl
with_none (Err e) = refl

with_both : (a b : List ℕ) (r : Result (List ℕ × List ℕ) Fault) → with_bytes a (with_bytes b r) ≡ with_bytes (a ++ b) r
with_both a b (Ok x) = ap (λ (s : List ℕ). Ok (s, x.1)) (sym (append_assoc a b x.0))
with_both a b (Err e) = refl

pub continues_start : (text : List ℕ) → Continues [] text (body_at text)
unfolding body_at
continues_start text = record { turns = length text; enough = omega arith; same = with_none (body_with (length text) text) }

-- no quote and no backslash at the first n places
abbrev pub IsPlain : List ℕ → ℕ → Type 0
IsPlain text n = (k : ℕ) → k < n → (get_or text k 0 == 34 || get_or text k 0 == 92) ≡ false

byte_with : (turns : ℕ) (found rest : List ℕ) (b : ℕ) (total : Result (List ℕ × List ℕ) Fault) → (b == 34 || b == 92) ≡ false → length (b ∷ rest) ≤ turns → with_bytes found (body_with turns (b ∷ rest)) ≡ total → Continues (found ++ b ∷ []) rest total
unfolding body_with
byte_with zero found rest b total plain enough same = absurd (omega arith)
byte_with (suc turns) found rest b total plain enough same =
    let p = or_parts (b == 34) (b == 92) plain in
    let step : body_with (suc turns) (b ∷ rest) ≡ with_bytes (b ∷ []) (body_with turns rest) = rw (p.0, p.1) refl in
    record { turns = turns; enough = omega arith; same = sym (with_both found (b ∷ []) (body_with turns rest)) ∙ ap (with_bytes found) (sym step) ∙ same }

continues_run : (n : ℕ) (found rest : List ℕ) (total : Result (List ℕ × List ℕ) Fault) → IsPlain rest n → n ≤ length rest → Continues found rest total → Continues (found ++ take n rest) (drop n rest) total
continues_run zero found rest total plain le c = subst (λ (z : List ℕ). Continues z rest total) (sym (append-nil found)) c
continues_run (suc n) found [] total plain le c = absurd (omega arith)
continues_run (suc n) found (b ∷ rest) total plain le c =
    let first = byte_with c.turns found rest b total (plain 0 (omega arith)) c.enough c.same in
    let all = continues_run n (found ++ b ∷ []) rest total (λ k h. plain (suc k) (omega arith)) (omega arith) first in
    subst (λ (z : List ℕ). Continues z (drop n rest) total) (append_assoc found (b ∷ []) (take n rest)) all

-- up to the first quote or backslash, which stands at the front of `at`
pub continues_to : (found rest : List ℕ) (i : ℕ) (total : Result (List ℕ × List ℕ) Fault) (all at : List ℕ) → IsFirstByte (is_byte2 34 92) rest (Some i) → all ≡ found ++ take i rest → at ≡ drop i rest
    → Continues found rest total → Continues all at total × (0 < length at) × ((get_or at 0 0 ≡ 34 → ⊥) → get_or at 0 0 ≡ 92)
continues_to found rest i total all at first e f c =
    let run = continues_run i found rest total (λ k h. false_from_ne_true (get_or rest k 0 == 34 || get_or rest k 0 == 92) (first.0.before k (omega arith) h)) (omega (arith, first.0.high)) c in
    let front : get_or at 0 0 ≡ get_or rest i 0 = ap (λ (z : List ℕ). get_or z 0 0) f ∙ get_or-drop i rest 0 0 ∙ ap (λ (k : ℕ). get_or rest k 0) (omega arith) in
    let some : 0 < length at = omega (arith, ap (length {A = ℕ}) f, length-drop i rest, first.0.high) in (
      subst (λ (z : List ℕ). Continues z at total) (sym e) (subst (λ (z : List ℕ). Continues (found ++ take i rest) z total) (sym f) run),
      some,
      λ none. elim (or_cases (get_or rest i 0 == 34) (get_or rest i 0 == 92) first.1) [ inl q ↦ absurd (none (front ∙ eqb-true (get_or rest i 0) 34 q)) | inr q ↦ front ∙ eqb-true (get_or rest i 0) 92 q ],
    )

closed_with : (turns : ℕ) (found rest : List ℕ) (total : Result (List ℕ × List ℕ) Fault) → length (34 ∷ rest) ≤ turns → with_bytes found (body_with turns (34 ∷ rest)) ≡ total → total ≡ Ok (found, rest)
unfolding body_with
closed_with zero found rest total enough same = absurd (omega arith)
closed_with (suc turns) found rest total enough same = sym same ∙ ap (λ (z : List ℕ). Ok (z, rest)) (append-nil found)

pub continues_closed : (found at : List ℕ) (total : Result (List ℕ × List ℕ) Fault) → 0 < length at → get_or at 0 0 ≡ 34 → Continues found at total → total ≡ Ok (found, drop 1 at)
continues_closed found [] total some e c = absurd (omega arith)
continues_closed found (b ∷ rest) total some e c =
    let d = subst (λ (n : ℕ). Continues found (n ∷ rest) total) e c in closed_with d.turns found rest total d.enough d.same

escape_with : (turns : ℕ) (found text : List ℕ) (r : Result (List ℕ × List ℕ) Fault) (total : Result (List ℕ × List ℕ) Fault) → escape_at (92 ∷ text) text ≡ r → length (92 ∷ text) ≤ turns
    → with_bytes found (body_with turns (92 ∷ text)) ≡ total → (t : ℕ) × (turns ≡ suc t) × (with_bytes found (r >>= λ x. with_bytes x.0 (body_with t x.1)) ≡ total)
unfolding body_with
escape_with zero found text r total e enough same = absurd (omega arith)
escape_with (suc turns) found text r total e enough same = (turns, refl, ap (λ (z : Result (List ℕ × List ℕ) Fault). with_bytes found (z >>= λ x. with_bytes x.0 (body_with turns x.1))) (sym e) ∙ same)

escape_front : (at : List ℕ) (r : Result (List ℕ × List ℕ) Fault) (found : List ℕ) (total : Result (List ℕ × List ℕ) Fault) → 0 < length at → get_or at 0 0 ≡ 92 → escape_at at (drop 1 at) ≡ r → Continues found at total
    → (t : ℕ) × (length at ≤ suc t) × (with_bytes found (r >>= λ x. with_bytes x.0 (body_with t x.1)) ≡ total)
escape_front [] r found total some e h c = absurd (omega arith)
escape_front (b ∷ text) r found total some e h c =
    let d = subst (λ (n : ℕ). Continues found (n ∷ text) total) e c in
    let p = escape_with d.turns found text r total (subst (λ (n : ℕ). escape_at (n ∷ text) text ≡ r) e h) d.enough d.same in
    (p.0, omega (arith, d.enough, p.1), p.2)

pub continues_escape : (found at bytes rest all : List ℕ) (total : Result (List ℕ × List ℕ) Fault) → 0 < length at → get_or at 0 0 ≡ 92 → escape_at at (drop 1 at) ≡ Ok (bytes, rest) → length rest < length at
    → all ≡ found ++ bytes → Continues found at total → Continues all rest total
continues_escape found at bytes rest all total some e h le is c =
    let p = escape_front at (Ok (bytes, rest)) found total some e h c in
    subst (λ (z : List ℕ). Continues z rest total) (sym is) (record { turns = p.0; enough = omega (arith, p.1); same = sym (with_both found bytes (body_with p.0 rest)) ∙ p.2 })

continues_fails : (found at : List ℕ) (f : Fault) (total : Result (List ℕ × List ℕ) Fault) → 0 < length at → get_or at 0 0 ≡ 92 → escape_at at (drop 1 at) ≡ Err f → Continues found at total → total ≡ Err f
continues_fails found at f total some e h c = sym (escape_front at (Err f) found total some e h c).2

pub continues_refused : (found at : List ℕ) (total : Result (List ℕ × List ℕ) Fault) (e : ReadError) → 0 < length at → get_or at 0 0 ≡ 92 → Fails e (escape_at at (drop 1 at)) → Continues found at total → Fails e total
continues_refused found at total errors.Memory some e fails c = tt
continues_refused found at total (errors.Fault f) some e fails c = continues_fails found at f total some e fails c

ends_with : (turns : ℕ) (found : List ℕ) (total : Result (List ℕ × List ℕ) Fault) → with_bytes found (body_with turns []) ≡ total → total ≡ fault EndsEarly []
unfolding body_with
ends_with zero found total same = sym same
ends_with (suc turns) found total same = sym same

pub continues_ends : (found rest : List ℕ) (total : Result (List ℕ × List ℕ) Fault) → IsFirstByte (is_byte2 34 92) rest None → Continues found rest total → total ≡ fault EndsEarly []
continues_ends found rest total none c =
    let run = continues_run (length rest) found rest total (λ k h. false_from_ne_true (get_or rest k 0 == 34 || get_or rest k 0 == 92) (none k (omega arith) h)) (omega arith) c in
    let d = subst (λ (z : List ℕ). Continues (found ++ take (length rest) rest) z total) (drop_all (length rest) rest (omega arith)) run in
    ends_with d.turns (found ++ take (length rest) rest) total d.same
