use Rattle.std.proofs.Common.{take, drop, subst, ◌-◌, append-nil, eq-eqb, ne_eqb, inl, inr, ◌≡◌, ℕ, ◌==◌, ◌+◌, ◌<◌, ◌≤◌, Bool, true, false, if◌then◌else◌, List, [], ◌∷◌, ◌++◌, Option, None, Some, ◌∙◌, ap, arith, filter, length, map, refl, slice_get, slice_index_or, slice_set, sym}
use Rattle.std.proofs.lemmas.Bool.{cases_eq, false_from_ne_true, false≢true}
use Rattle.std.proofs.lemmas.Option.{slice_get_within}
use Rattle.std.proofs.lemmas.List.{take_all, take_more, drop_more, take-append-drop, get_or-set_same, get_or-set_other}
use Rattle.std.proofs.lemmas.List.Elements.{filter-append}
use Rattle.ref_shared.specs.Gather.{ReceiptsMatch, due, has_receipt, told_at}
use Rattle.ref_shared.specs.Marks.{AllMarked, Fits}
use Rattle.ref_log.specs.declared.entries.Entry.{Entry}

-- what the receipts so far told of an entry, by its mark
abbrev pub found : ℕ → Option Entry → Bool → List ℕ
found p None marked = []
found p (Some e) true = p ∷ []
found p (Some e) false = []

-- the marks say which entries the receipts so far have met, and only those are marked that have one
pub record SoFar (base : ℕ) (log : List Entry) (met : List Bool) (receipts : List ℕ) : Type 0 where
  pub told : (i : ℕ) → told_at (base + 1 + i) receipts ≡ found (base + 1 + i) (slice_get log i) (slice_index_or met i false)
  pub due : (i : ℕ) (e : Entry) → slice_get log i ≡ Some e → slice_index_or met i false ≡ true → has_receipt e ≡ true

same_Some : (x y : Entry) → Some x ≡ Some y → x ≡ y
same_Some x y h = cc

none_Some : (x : Entry) → None ≡ Some x → ⊥
none_Some x h = cc

pub told_here : (p : ℕ) (r : ℕ) (rs : List ℕ) → r ≡ p → told_at p (r ∷ rs) ≡ p ∷ told_at p rs
told_here p r rs e = rw (eq-eqb r p e) (ap (λ z. z ∷ told_at p rs) e)

pub told_other : (p : ℕ) (r : ℕ) (rs : List ℕ) → (r ≡ p → ⊥) → told_at p (r ∷ rs) ≡ told_at p rs
told_other p r rs n = rw (ne_eqb r p n) refl

told_append : (p : ℕ) (rs qs : List ℕ) → told_at p (rs ++ qs) ≡ told_at p rs ++ told_at p qs
told_append p rs qs = filter-append (λ (r : ℕ). r == p) rs qs

told_no_more : (p : ℕ) (r : ℕ) (rs : List ℕ) → (r ≡ p → ⊥) → told_at p (rs ++ r ∷ []) ≡ told_at p rs
told_no_more p r rs n = told_append p rs (r ∷ []) ∙ (ap (λ z. told_at p rs ++ z) (told_other p r [] n) ∙ append-nil (told_at p rs))

told_one_more : (p : ℕ) (r : ℕ) (rs qs : List ℕ) → r ≡ p → told_at p (rs ++ r ∷ qs) ≡ told_at p rs ++ p ∷ told_at p qs
told_one_more p r rs qs e = told_append p rs (r ∷ qs) ∙ ap (λ z. told_at p rs ++ z) (told_here p r qs e)

not_found : (p : ℕ) (o : Option Entry) (b : Bool) (e : Entry) → o ≡ Some e → b ≡ false → found p o b ≡ []
not_found p o b e here new = rw (here, new) refl

is_found : (p : ℕ) (o : Option Entry) (b : Bool) (e : Entry) → o ≡ Some e → b ≡ true → found p o b ≡ p ∷ []
is_found p o b e here marked = rw (here, marked) refl

is_due : (p : ℕ) (e : Entry) → has_receipt e ≡ true → due p (Some e) ≡ p ∷ []
is_due p e h = rw h refl

-- a receipt of a point that isn't past the base's
pub skips : (base : ℕ) (log : List Entry) (met : List Bool) (rs : List ℕ) (r : ℕ)
    → SoFar base log met rs → r ≤ base → SoFar base log met (rs ++ r ∷ [])
skips base log met rs r s low = record {
  told = λ i. told_no_more (base + 1 + i) r rs (λ e. absurd (omega (arith, low, e))) ∙ s.told i;
  due = s.due;
}

-- a receipt of an entry that is then marked
pub marks : (base : ℕ) (log : List Entry) (met : List Bool) (rs : List ℕ) (r : ℕ) (i : ℕ)
    → SoFar base log met rs → r ≡ base + 1 + i → Fits log met i → i < length met
    → SoFar base log (slice_set met i true) (rs ++ r ∷ [])
marks base log met rs r i s at fits within = record {
  told = λ j. elim (cases_eq j i) [
    | inl e ↦ rw e (told_one_more (base + 1 + i) r rs [] at
        ∙ (ap (λ z. z ++ (base + 1 + i) ∷ []) (s.told i ∙ not_found _ _ _ fits.e fits.here fits.new)
        ∙ sym (is_found _ _ _ fits.e fits.here (get_or-set_same met i true false within))))
    | inr n ↦ told_no_more (base + 1 + j) r rs (λ e. n (omega (arith, at, e))) ∙ (s.told j ∙ rw (get_or-set_other met i j true false n) refl)
  ];
  due = λ j e here marked. elim (cases_eq j i) [
    | inl q ↦ rw (same_Some _ _ (sym here ∙ (ap (slice_get log) q ∙ fits.here))) fits.due
    | inr n ↦ s.due j e here (sym (get_or-set_other met i j true false n) ∙ marked)
  ];
}

clash_marked : (p q : ℕ) (rest : List ℕ) (h : Bool) → p ∷ q ∷ rest ≡ (if h then p ∷ [] else []) → ⊥
clash_marked p q rest true e = absurd (omega (arith, ap length e))
clash_marked p q rest false e = absurd (omega (arith, ap length e))

clash_free : (p q : ℕ) (rest : List ℕ) (h : Bool) → (h ≡ true → ⊥) → q ∷ rest ≡ (if h then p ∷ [] else []) → ⊥
clash_free p q rest true n e = n refl
clash_free p q rest false n e = absurd (omega (arith, ap length e))

clash : (p : ℕ) (o : Option Entry) (b : Bool) (q : ℕ) (rest : List ℕ) → ((e : Entry) → o ≡ Some e → has_receipt e ≡ true → b ≡ false → ⊥) → found p o b ++ q ∷ rest ≡ due p o → ⊥
clash p None b q rest n e = absurd (omega (arith, ap length e))
clash p (Some x) true q rest n e = clash_marked p q rest (has_receipt x) e
clash p (Some x) false q rest n e = clash_free p q rest (has_receipt x) (λ h. n x refl h refl) e

-- a receipt that fits no entry
pub misses : (base : ℕ) (log : List Entry) (met : List Bool) (rs qs : List ℕ) (r : ℕ) (i : ℕ)
    → SoFar base log met rs → r ≡ base + 1 + i → (Fits log met i → ⊥) → ReceiptsMatch base log (rs ++ r ∷ qs) → ⊥
misses base log met rs qs r i s at unfit all =
    clash (base + 1 + i) (slice_get log i) (slice_index_or met i false) (base + 1 + i) (told_at (base + 1 + i) qs)
    (λ e here due new. unfit (record { e = e; here = here; due = due; new = new }))
    (ap (λ z. z ++ (base + 1 + i) ∷ told_at (base + 1 + i) qs) (sym (s.told i)) ∙ (sym (told_one_more (base + 1 + i) r rs qs at) ∙ all i))

ends_at : (p : ℕ) (o : Option Entry) (b : Bool) → ((e : Entry) → o ≡ Some e → has_receipt e ≡ true → b ≡ true) → ((e : Entry) → o ≡ Some e → b ≡ true → has_receipt e ≡ true) → found p o b ≡ due p o
ends_at p None b to fro = refl
ends_at p (Some x) true to fro = rw (fro x refl refl) refl
ends_at p (Some x) false to fro = rw (false_from_ne_true (has_receipt x) (λ h. false≢true (to x refl h))) refl

-- where all receipts were met, and each entry with a receipt is marked, they match
pub all_met : (base : ℕ) (log : List Entry) (met : List Bool) (rs : List ℕ) → SoFar base log met rs → AllMarked log met → ReceiptsMatch base log rs
all_met base log met rs s all i = s.told i ∙ ends_at _ (slice_get log i) (slice_index_or met i false) (all i) (s.due i)

-- the same at a loop's step, which has the item and what it is
pub skips_at : (base : ℕ) (log : List Entry) (met : List Bool) (rs : List ℕ) (k : ℕ) (r : ℕ)
    → SoFar base log met (take k rs) → k < length rs → r ≡ slice_index_or rs k 0 → r ≤ base → SoFar base log met (take (k + 1) rs)
skips_at base log met rs k r s within is low =
    rw (take_more rs k 0 within) (subst (λ z. SoFar base log met (take k rs ++ z ∷ [])) is (skips base log met (take k rs) r s low))

pub marks_at : (base : ℕ) (log : List Entry) (met : List Bool) (rs : List ℕ) (k : ℕ) (r : ℕ)
    → SoFar base log met (take k rs) → k < length rs → r ≡ slice_index_or rs k 0 → base < r → length met ≡ length log
    → Fits log met (r - base - 1) → SoFar base log (slice_set met (r - base - 1) true) (take (k + 1) rs)
marks_at base log met rs k r s within is past long fits =
    let place = slice_get_within log _ _ fits.here in
    rw (take_more rs k 0 within)
    (subst (λ z. SoFar base log (slice_set met (r - base - 1) true) (take k rs ++ z ∷ [])) is
    (marks base log met (take k rs) r (r - base - 1) s (omega (arith, past)) fits (omega (arith, place, long))))

pub misses_at : (base : ℕ) (log : List Entry) (met : List Bool) (rs : List ℕ) (k : ℕ) (r : ℕ)
    → SoFar base log met (take k rs) → k < length rs → r ≡ slice_index_or rs k 0 → base < r
    → (Fits log met (r - base - 1) → ⊥) → ReceiptsMatch base log rs → ⊥
misses_at base log met rs k r s within is past unfit all =
    misses base log met (take k rs) (drop (k + 1) rs) r (r - base - 1) s (omega (arith, past)) unfit
    (subst (λ z. ReceiptsMatch base log (take k rs ++ z ∷ drop (k + 1) rs)) (sym is)
    (subst (ReceiptsMatch base log) (sym (take-append-drop k rs) ∙ ap (λ z. take k rs ++ z) (drop_more rs k 0 within)) all))

-- and at its end
pub all_met_at : (base : ℕ) (log : List Entry) (met : List Bool) (rs : List ℕ) (k : ℕ)
    → SoFar base log met (take k rs) → length rs ≤ k → AllMarked log met → ReceiptsMatch base log rs
all_met_at base log met rs k s end all = all_met base log met rs (subst (SoFar base log met) (take_all k rs end) s) all
