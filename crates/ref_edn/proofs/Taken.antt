-- What reads and writes, one after another, do to known bytes.
use Rattle.std.proofs.Common.{◌≡◌, ◌≤◌, ◌<◌, ◌+◌, ℕ, List, ◌++◌, length, take, drop, subst, sym, ap, ◌∙◌, Option, Result, Ok, Err, OnErr, arith, append_assoc, length-append, take-append-drop, length-take}
use lib.Seq.{take-append_seam}
use Rattle.std.proofs.KnownBytes.{Consumes-trans, Appends-trans, Appends-kept}
use Rattle.std.specs.Io.KnownBytes.{Appends, Consumes, Keeps}
use Rattle.ref_edn.specs.Streams.{AppendsPart, ConsumesUpTo}

pub on_err : {T E : Type 0} {P : Type 0} (r : Result T E) → P → OnErr r P
on_err (Ok x) p = tt
on_err (Err e) p = p

pub length-taken : (cs xs : List ℕ) (n : ℕ) → length cs ≡ length (take n xs) → length cs ≤ n
length-taken cs xs n e = omega (arith, length-take {A = ℕ})

-- bytes that were read, and n of those that are then read
pub consumes_up_to : (a b c : Option (List ℕ)) (bs cs : List ℕ) (n most : ℕ)
    → Consumes a b bs → Consumes b c (take n cs) → length bs + length cs ≤ most → ConsumesUpTo a c most
consumes_up_to a b c bs cs n most p q h =
    let short : length (bs ++ take n cs) ≤ most = grind (arith, length-append {A = ℕ}, length-take {A = ℕ}) in
    (bs ++ take n cs, Consumes-trans a b c bs (take n cs) p q, short)

-- the writes so far appended all but what is left
pub record Wrote (old new : Option (List ℕ)) (all rest : List ℕ) : Type 0 where
  pub front : List ℕ
  pub whole : all ≡ front ++ rest
  pub appended : Appends old new front

pub wrote_more : (a b c : Option (List ℕ)) (all rest left : List ℕ) (n : ℕ)
    → Wrote a b all rest → Appends b c (take n rest) → left ≡ drop n rest → Wrote a c all left
wrote_more a b c all rest left n w q e = subst (Wrote a c all) (sym e) record {
  front = w.front ++ take n rest;
  whole = w.whole ∙ ap (λ l. w.front ++ l) (sym (take-append-drop n rest)) ∙ sym (append_assoc w.front (take n rest) (drop n rest));
  appended = Appends-trans a b c w.front (take n rest) w.appended q;
}

pub wrote_part : (a b c : Option (List ℕ)) (all rest : List ℕ) → Wrote a b all rest → Keeps b c → 0 < length rest → AppendsPart a c all
wrote_part a b c all rest w k h =
    let len : length all ≡ length w.front + length rest = ap length w.whole ∙ length-append w.front rest in
    let front : take (length w.front) all ≡ w.front = ap (take (length w.front)) w.whole ∙ take-append_seam w.front rest in
    (length w.front, omega arith, Appends-kept a b c _ (subst (Appends a b) (sym front) w.appended) k)
