-- The reader's loop over the elements of a whole text.
use Rattle.std.proofs.Common.{◌≡◌, ℕ, zero, suc, ◌<◌, ◌≤◌, List, [], ◌∷◌, ◌++◌, length, Result, Ok, Err, refl, sym, ap, ◌∙◌, arith, append_assoc, append-nil}
use Rattle.ref_edn.specs.declared.faults.Fault.{Fault}
use Rattle.ref_edn.specs.declared.faults.ReadError.{ReadError}
use Rattle.ref_value.specs.Edn.{Edn}
use Rattle.ref_edn.specs.Faults.{◌>>=◌, Fails}
use Rattle.ref_edn.specs.ReadParts.{series_at}
use Rattle.ref_edn.specs.Reading.{skip, read, all_step, all_with}
use Rattle.ref_edn.proofs.Turns.{fails_so}
use Rattle.ref_value.specs.Limits.{most_nested}

-- what was read before, and what is still read
abbrev pub with_found : List Edn → Result (List Edn) Fault → Result (List Edn) Fault
with_found found r = r >>= λ xs. Ok (found ++ xs)

pub record ReadsSeries (found : List Edn) (rest : List ℕ) (total : Result (List Edn) Fault) : Type 0 where
  pub turns : ℕ
  pub enough : length rest ≤ turns
  pub same : with_found found (all_with turns rest) ≡ total

with_none : (r : Result (List Edn) Fault) → with_found [] r ≡ r
with_none (Ok x) = refl
with_none (Err f) = refl

with_one_more : (found : List Edn) (x : Edn) (r : Result (List Edn) Fault) → with_found found (r >>= λ xs. Ok (x ∷ xs)) ≡ with_found (found ++ x ∷ []) r
with_one_more found x (Ok xs) = ap Ok (sym (append_assoc found (x ∷ []) xs))
with_one_more found x (Err f) = refl

pub series_start : (text : List ℕ) → ReadsSeries [] text (series_at text)
unfolding series_at
series_start text = record { turns = length text; enough = omega arith; same = with_none (all_with (length text) text) }

some_turns : (turns : ℕ) (rest : List ℕ) → (more : List ℕ → Result (List Edn) Fault) × (all_with turns rest ≡ (skip most_nested rest >>= λ start. all_step more start))
unfolding all_with
some_turns zero rest = (λ at. Ok [], refl)
some_turns (suc turns) rest = (all_with turns, refl)

module _ (found : List Edn) (rest : List ℕ) (total : Result (List Edn) Fault) (r : ReadsSeries found rest total) where
  pub series_skip_fails : (e : ReadError) → Fails e (skip most_nested rest) → Fails e total
  series_skip_fails e failed =
      let p = some_turns r.turns rest in
      fails_so e (skip most_nested rest) total (λ f at. let fault : all_with r.turns rest ≡ Err f = p.1 ∙ rw at refl in sym r.same ∙ ap (with_found found) fault) failed

  pub series_ends : (start : List ℕ) → skip most_nested rest ≡ Ok start → length start ≡ 0 → total ≡ Ok found
  series_ends (b ∷ start) at none = absurd (omega arith)
  series_ends [] at none =
      let p = some_turns r.turns rest in
      let ends : all_with r.turns rest ≡ Ok [] = p.1 ∙ rw at refl in
      sym r.same ∙ ap (with_found found) ends ∙ rw append-nil refl

  pub series_fails : (start : List ℕ) (e : ReadError) → skip most_nested rest ≡ Ok start → 0 < length start → Fails e (read most_nested start) → Fails e total
  series_fails [] e at some failed = absurd (omega arith)
  series_fails (b ∷ start) e at some failed =
      let p = some_turns r.turns rest in
      fails_so e (read most_nested (b ∷ start)) total
      (λ f read_so. let fault : all_with r.turns rest ≡ Err f = p.1 ∙ rw (at, read_so) refl in sym r.same ∙ ap (with_found found) fault)
      failed

  pub series_more : (start : List ℕ) (x : Edn) (behind : List ℕ) → skip most_nested rest ≡ Ok start → 0 < length start → read most_nested start ≡ Ok (x, behind) → length behind < length rest → ReadsSeries (found ++ x ∷ []) behind total
  unfolding all_with
  series_more [] x behind at some read_so shorter = absurd (omega arith)
  series_more (b ∷ start) x behind at some read_so shorter = by r.turns r.enough r.same
    where
      by : (turns : ℕ) → length rest ≤ turns → with_found found (all_with turns rest) ≡ total → ReadsSeries (found ++ x ∷ []) behind total
      by zero enough same = absurd (omega arith)
      by (suc turns) enough same =
          let e : all_with (suc turns) rest ≡ (all_with turns behind >>= λ xs. Ok (x ∷ xs)) = rw (at, read_so) refl in
          record { turns = turns; enough = omega arith; same = sym (ap (with_found found) e ∙ with_one_more found x (all_with turns behind)) ∙ same }
