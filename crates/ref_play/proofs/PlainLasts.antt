-- The points of last changes, in plain words.
use Rattle.std.proofs.Common.{◌≡◌, ℕ, ◌+◌, cond, Bool, true, false, ◌⊎◌, inl, inr, List, [], ◌∷◌, length, slice_index_or, refl, sym, ap, subst, ◌∙◌}
use Rattle.std.proofs.lemmas.Bool.{eq-eqb, eqb-true, false_from_ne_true}
use Rattle.ref_log.specs.Replay.{is_changed_by, is_touched, last_change_from, refs_after_one}
use Rattle.ref_log.specs.declared.entries.Entry.{Entry}
use Rattle.ref_log.specs.declared.entries.Entry.TheVariants.{Trans, Atom, MadeRef, MadeAtom}
use Rattle.ref_refs.specs.Seen.{changed_at}
use Rattle.ref_play.specs.Plain.{ChangesRef, LastAt, LastsMean, NoneChanges, refs_with}
use Rattle.ref_play.proofs.PlainFaults.{is_touched_by, touched_is}

changes_ref : (refs : ℕ) (e : Entry) (r : ℕ) → is_changed_by refs e r ≡ true → ChangesRef refs e r
changes_ref refs (Trans t) r is = touched_is t.dones r is
changes_ref refs (Atom a op answer) r is = absurd cc
changes_ref refs (MadeRef v) r is = eqb-true refs r is
changes_ref refs (MadeAtom v) r is = absurd cc

ref_changes : (refs : ℕ) (e : Entry) (r : ℕ) → ChangesRef refs e r → is_changed_by refs e r ≡ true
ref_changes refs (Trans t) r is = is_touched_by t.dones r is
ref_changes refs (Atom a op answer) r is = absurd is
ref_changes refs (MadeRef v) r is = eq-eqb refs r is
ref_changes refs (MadeAtom v) r is = absurd is

same_refs : (refs : ℕ) (e : Entry) → refs_after_one refs e ≡ refs_with refs e
same_refs refs (Trans t) = refl
same_refs refs (Atom a op answer) = refl
same_refs refs (MadeRef v) = refl
same_refs refs (MadeAtom v) = refl

-- what is so of the point of the last change
abbrev Lasts : ℕ → ℕ → List Entry → ℕ → ℕ → ℕ → Type 0
Lasts point refs es r before p = LastAt point refs es r p ⊎ (NoneChanges refs es r × (before ≡ p))

lasts_so : (point refs : ℕ) (es : List Entry) (r before : ℕ) → Lasts point refs es r before (last_change_from point refs es r before)
lasts_so point refs [] r before = inr (tt, refl)
lasts_so point refs (e ∷ es) r before =
    subst (λ n. Lasts point refs (e ∷ es) r before (last_change_from (point + 1) n es r (cond (is_changed_by refs e r) (point + 1) before))) (sym (same_refs refs e))
    (by (is_changed_by refs e r) refl (λ b. lasts_so (point + 1) (refs_with refs e) es r b))
  where
    rest : ℕ → ℕ
    rest b = last_change_from (point + 1) (refs_with refs e) es r b

    by : (b : Bool) → is_changed_by refs e r ≡ b → ((old : ℕ) → Lasts (point + 1) (refs_with refs e) es r old (rest old)) → Lasts point refs (e ∷ es) r before (rest (cond b (point + 1) before))
    by true changes later = made (later (point + 1)) where
      made : Lasts (point + 1) (refs_with refs e) es r (point + 1) (rest (point + 1)) → Lasts point refs (e ∷ es) r before (rest (point + 1))
      made (inl last) = inl (inr last)
      made (inr (none, same)) = inl (inl (changes_ref refs e r changes, none, sym same))
    by false leaves later = made (later before) where
      never : ChangesRef refs e r → ⊥
      never changes = let yes = ref_changes refs e r changes in cc

      made : Lasts (point + 1) (refs_with refs e) es r before (rest before) → Lasts point refs (e ∷ es) r before (rest before)
      made (inl last) = inl (inr last)
      made (inr (none, same)) = inr ((never, none), same)

none_changed : (point refs : ℕ) (es : List Entry) (r before : ℕ) → NoneChanges refs es r → last_change_from point refs es r before ≡ before
none_changed point refs [] r before none = refl
none_changed point refs (e ∷ es) r before (never, none) =
    ap (λ n. last_change_from (point + 1) n es r (cond (is_changed_by refs e r) (point + 1) before)) (same_refs refs e)
    ∙ (ap (λ b. last_change_from (point + 1) (refs_with refs e) es r (cond b (point + 1) before)) (false_from_ne_true (is_changed_by refs e r) (λ is. never (changes_ref refs e r is)))
    ∙ none_changed (point + 1) (refs_with refs e) es r before none)

last_is_at : (point refs : ℕ) (es : List Entry) (r before p : ℕ) → LastAt point refs es r p → last_change_from point refs es r before ≡ p
last_is_at point refs [] r before p last = absurd last
last_is_at point refs (e ∷ es) r before p (inl (changes, none, is)) =
    ap (λ n. last_change_from (point + 1) n es r (cond (is_changed_by refs e r) (point + 1) before)) (same_refs refs e)
    ∙ (ap (λ b. last_change_from (point + 1) (refs_with refs e) es r (cond b (point + 1) before)) (ref_changes refs e r changes)
    ∙ (none_changed (point + 1) (refs_with refs e) es r (point + 1) none ∙ sym is))
last_is_at point refs (e ∷ es) r before p (inr later) =
    ap (λ n. last_change_from (point + 1) n es r (cond (is_changed_by refs e r) (point + 1) before)) (same_refs refs e)
    ∙ last_is_at (point + 1) (refs_with refs e) es r (cond (is_changed_by refs e r) (point + 1) before) p later

lasts_back : (point refs : ℕ) (es : List Entry) (r before p : ℕ) → Lasts point refs es r before p → last_change_from point refs es r before ≡ p
lasts_back point refs es r before p (inl last) = last_is_at point refs es r before p last
lasts_back point refs es r before p (inr (none, same)) = none_changed point refs es r before none ∙ same

pub lasts_mean : LastsMean
lasts_mean = record {
  history = λ base es r p. (
    (λ is. subst (Lasts base.point (length base.refs) es r (slice_index_or base.last r 0)) is (lasts_so base.point (length base.refs) es r (slice_index_or base.last r 0))),
    lasts_back base.point (length base.refs) es r (slice_index_or base.last r 0) p,
  );
  changed = λ lasts at dones r changed. ap (λ b. cond b at (changed_at lasts r)) (is_touched_by dones r changed);
  kept = λ lasts at dones r kept. ap (λ b. cond b at (changed_at lasts r)) (false_from_ne_true (is_touched dones r) (λ is. kept (touched_is dones r is)));
}
