-- The codes that the first entries call and that a table lacks, from one entry to the next.
use Rattle.std.proofs.Common.{◌≡◌, ◌-◌, ℕ, zero, suc, Bool, List, ◌∷◌, Option, None, Some, refl, sym, ap, ◌∙◌, arith, take}
use Rattle.ref_log.specs.Called.{codes_called, codes_of_entry}
use Rattle.ref_log.specs.Replay.{missing}
use Rattle.ref_log.specs.declared.entries.Entry.{Entry}
use Rattle.ref_log.proofs.FirstFaults.{missing-append, missing_first}

module _ (knows : ℕ → Bool) where
  after_entry : (left : ℕ) (es : List Entry) (e : Entry) → (left ≡ 0 → ⊥) → missing knows (codes_of_entry e) ≡ None
      → missing knows (codes_called (take (left - 1) es)) ≡ missing knows (codes_called (take left (e ∷ es)))
  after_entry zero es e some none = absurd (some refl)
  after_entry (suc k) es e some none =
      let less : suc k - 1 ≡ k = omega arith in
      ap (λ n. missing knows (codes_called (take n es))) less ∙ sym (missing-append knows (codes_of_entry e) (codes_called (take k es)) none)

  pub next_entry : (left : ℕ) (rest es : List Entry) (e : Entry) → rest ≡ e ∷ es → (left ≡ 0 → ⊥) → missing knows (codes_of_entry e) ≡ None
      → missing knows (codes_called (take (left - 1) es)) ≡ missing knows (codes_called (take left rest))
  next_entry left rest es e is some none = after_entry left es e some none ∙ ap (λ l. missing knows (codes_called (take left l))) (sym is)

  at_entry : (left : ℕ) (es : List Entry) (e : Entry) (code : ℕ) → (left ≡ 0 → ⊥) → missing knows (codes_of_entry e) ≡ Some code
      → missing knows (codes_called (take left (e ∷ es))) ≡ Some code
  at_entry zero es e code some is = absurd (some refl)
  at_entry (suc k) es e code some is = missing_first knows (codes_of_entry e) (codes_called (take k es)) code is

  pub lacking_entry : (left : ℕ) (rest es : List Entry) (e : Entry) (code : ℕ) → rest ≡ e ∷ es → (left ≡ 0 → ⊥) → missing knows (codes_of_entry e) ≡ Some code
      → missing knows (codes_called (take left rest)) ≡ Some code
  lacking_entry left rest es e code is some lacks = ap (λ l. missing knows (codes_called (take left l))) is ∙ at_entry left es e code some lacks
