-- What a committed transaction was told of what it protects is right at its place.
use Rattle.std.proofs.Common.{◌≡◌, ℕ, zero, suc, ◌+◌, ◌<◌, ◌==◌, not, Bool, true, false, Ok, List, [], ◌∷◌, ◌++◌, length, Some, slice_get, take, refl, sym, ap, subst, ◌∙◌, arith, add-one}
use Rattle.std.proofs.lemmas.Bool.{eqb-true, eqb-false}
use Rattle.std.proofs.lemmas.List.{append_assoc, append-nil}
use Rattle.ref_value.specs.Edn.{Edn}
use Rattle.ref_fun.specs.Meaning.{Means}
use Rattle.ref_log.specs.declared.operations.Done.{Done}
use Rattle.ref_log.specs.Replay.{after_done, after_dones, is_protected}
use Rattle.ref_log.specs.Laws.{after_dones-Ok, after_found-Ok, slice_get-slice_set, slice_get-slice_set-here}
use Rattle.ref_tx.specs.Inner.{AreAnswers, and_place, given, value_after}
use Rattle.ref_tx.specs.Laws.{value_after-here, value_after-elsewhere}
use Rattle.ref_play.specs.Laws.{placed_value, value_in}

pub get-below : (values : List Edn) (r : ℕ) (v : Edn) → slice_get values r ≡ Some v → r < length values
get-below [] r v is = absurd cc
get-below (x ∷ xs) zero v is = omega arith
get-below (x ∷ xs) (suc r) v is =
    let below = get-below xs r v is in
    omega (arith, below)

module _ (means : Means) (began : List Edn) (all : List Done) (point : ℕ) where
  -- What the transaction protects has its in-transaction value after these operations.
  abbrev pub Agrees : List Done → List Edn → Type 0
  Agrees former values = (r : ℕ) → is_protected all r ≡ true → slice_get values r ≡ value_after means began former r

  pub agrees_more : (former : List Done) (d : Done) (values after : List Edn) → Agrees former values → after_done means all point d values ≡ Ok after → Agrees (former ++ d ∷ []) after
  agrees_more former d values after so_far is r protected = by (d.r == r) refl where
    by : (b : Bool) → (d.r == r) ≡ b → slice_get after r ≡ value_after means began (former ++ d ∷ []) r
    by true here =
        let same = eqb-true d.r r here in
        let set = after_found-Ok means (not (is_protected all d.r)) point d values after (slice_get values d.r) is in
        let below = get-below values d.r set.0 set.2 in
        ap (slice_get after) (sym same)
        ∙ (ap (λ l. slice_get l d.r) set.4
        ∙ (slice_get-slice_set-here values d.r set.1 below
        ∙ (ap given (sym set.3)
        ∙ (ap (and_place means d.op) (sym set.2)
        ∙ (ap (λ q. and_place means d.op (slice_get values q)) same
        ∙ (ap (and_place means d.op) (so_far r protected)
        ∙ sym (value_after-here means began former d r here)))))))
    by false elsewhere =
        let set = after_found-Ok means (not (is_protected all d.r)) point d values after (slice_get values d.r) is in
        ap (λ l. slice_get l r) set.4
        ∙ (slice_get-slice_set values d.r r set.1 (eqb-false d.r r elsewhere)
        ∙ (so_far r protected
        ∙ sym (value_after-elsewhere means began former d r elsewhere)))

  -- so it is at each place
  placed_from : (former ds : List Done) (values after : List Edn) → Agrees former values → after_dones means all point ds (Ok values) ≡ Ok after → (n r : ℕ) → is_protected all r ≡ true
      → value_in (after_dones means all point (take n ds) (Ok values)) r ≡ value_after means began (former ++ take n ds) r
  placed_from former [] values after so_far is n r protected = by n where
    by : (n : ℕ) → value_in (after_dones means all point (take n []) (Ok values)) r ≡ value_after means began (former ++ take n []) r
    by zero = so_far r protected ∙ ap (λ l. value_after means began l r) (sym (append-nil former))
    by (suc n) = so_far r protected ∙ ap (λ l. value_after means began l r) (sym (append-nil former))
  placed_from former (d ∷ ds) values after so_far is zero r protected = so_far r protected ∙ ap (λ l. value_after means began l r) (sym (append-nil former))
  placed_from former (d ∷ ds) values after so_far is (suc n) r protected =
      let first = after_dones-Ok means all point ds (after_done means all point d values) after is in
      let rest : after_dones means all point ds (Ok first.0) ≡ Ok after = ap (after_dones means all point ds) (sym first.1) ∙ is in
      ap (λ x. value_in (after_dones means all point (take n ds) x) r) first.1
      ∙ (placed_from (former ++ d ∷ []) ds first.0 after (agrees_more former d values first.0 so_far first.1) rest n r protected
      ∙ ap (λ l. value_after means began l r) (append_assoc former (d ∷ []) (take n ds)))

  pub placed : (values after : List Edn) → ((r : ℕ) → is_protected all r ≡ true → slice_get values r ≡ slice_get began r) → after_dones means all point all (Ok values) ≡ Ok after → (n r : ℕ) → is_protected all r ≡ true
      → placed_value means all point values n r ≡ value_after means began (take n all) r
  placed values after same is n r protected = placed_from [] all values after same is n r protected

-- The answer of an operation is the in-transaction value after it.
pub answers_at : (means : Means) (began : List Edn) (former ds : List Done) (n : ℕ) (d : Done) → AreAnswers means began former ds → slice_get ds n ≡ Some d → value_after means began (former ++ take (n + 1) ds) d.r ≡ Some d.answer
answers_at means began former [] n d are is = absurd cc
answers_at means began former (x ∷ ds) zero d are is =
    let same : x ≡ d = cc in
    subst (λ y. value_after means began (former ++ x ∷ []) y.r ≡ Some y.answer) same are.0
answers_at means began former (x ∷ ds) (suc n) d are is =
    rw add-one (ap (λ l. value_after means began l d.r) (sym (append_assoc former (x ∷ []) (take (suc n) ds)))
    ∙ rw add-one at (answers_at means began (former ++ x ∷ []) ds n d are.1 is))
