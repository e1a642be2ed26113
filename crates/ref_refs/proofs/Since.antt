-- No ref has changed after a point, where each last change is at it or before.
use Rattle.std.proofs.Common.{◌≡◌, ℕ, zero, suc, ◌≤◌, ◌<◌, ◌&&◌, drop, ◌-◌, ◌++◌, ◌∷◌, [], Bool, true, false, not, cond, List, length, refl, ap, sym, ◌∙◌, arith, subst}
use Rattle.std.specs.Prelude.{nat_lt, None, slice_get, unwrap_or}
use Rattle.std.proofs.lemmas.Option.{unwrap_or-slice_get}
use Rattle.std.proofs.lemmas.Bool.{and_from, and_parts, le-ltb, ltb-false, not-true}
use Rattle.ref_log.specs.declared.operations.Done.{Done}
use Rattle.ref_log.specs.Replay.{is_touched}
use Rattle.ref_refs.specs.Commit.{changed_by}
use Rattle.ref_refs.specs.Seen.{are_unchanged_since, changed_at}

not_later : (p last : ℕ) → not (nat_lt p last) ≡ true → last ≤ p
not_later p last is = ltb-false p last (not-true (nat_lt p last) is)

since_from : (lasts : List ℕ) (p : ℕ) → ((r : ℕ) → changed_at lasts r ≤ p) → are_unchanged_since lasts p ≡ true
since_from [] p below = refl
since_from (x ∷ xs) p below = and_from (not (nat_lt p x)) (are_unchanged_since xs p) (ap not (le-ltb p x (below zero))) (since_from xs p (λ r. below (suc r)))

since_at : (lasts : List ℕ) (p r : ℕ) → are_unchanged_since lasts p ≡ true → changed_at lasts r ≤ p
since_at [] p r is = omega arith
since_at (x ∷ xs) p zero is = not_later p x (and_parts (not (nat_lt p x)) (are_unchanged_since xs p) is).0
since_at (x ∷ xs) p (suc r) is = since_at xs p r (and_parts (not (nat_lt p x)) (are_unchanged_since xs p) is).1

bound : (b : Bool) (at x : ℕ) → x ≤ at → cond b at x ≤ at
bound true at x below = omega arith
bound false at x below = below

pub since_commit : (lasts after : List ℕ) (at : ℕ) (ds : List Done) → are_unchanged_since lasts (at - 1) ≡ true → ((r : ℕ) → changed_at after r ≡ changed_by lasts at ds r) → are_unchanged_since after at ≡ true
since_commit lasts after at ds is moved = since_from after at (λ r.
    let before = since_at lasts (at - 1) r is in
    subst (λ x. x ≤ at) (sym (moved r)) (bound (is_touched ds r) at (changed_at lasts r) (omega (arith, before))))

-- The last changes, where a ref more changed at a point.
here : (lasts : List ℕ) (at : ℕ) → changed_at (lasts ++ at ∷ []) (length lasts) ≡ at
here [] at = refl
here (x ∷ xs) at = here xs at

elsewhere : (lasts : List ℕ) (at r : ℕ) → (length lasts ≡ r → ⊥) → changed_at (lasts ++ at ∷ []) r ≡ changed_at lasts r
elsewhere [] at zero other = absurd (other refl)
elsewhere [] at (suc r) other = refl
elsewhere (x ∷ xs) at zero other = refl
elsewhere (x ∷ xs) at (suc r) other = elsewhere xs at r (λ same. other (ap suc same))

-- The last change of a ref that isn't there.
pub never_changed : (lasts : List ℕ) (r : ℕ) → slice_get lasts r ≡ None → changed_at lasts r ≡ 0
never_changed lasts r none = sym (unwrap_or-slice_get lasts r 0) ∙ ap (λ o. unwrap_or o 0) none

-- one ref more that hasn't changed
pub since_next : (lasts : List ℕ) (p r : ℕ) → r < length lasts → nat_lt p (changed_at lasts r) ≡ false → are_unchanged_since (drop (suc r) lasts) p ≡ are_unchanged_since (drop r lasts) p
since_next [] p r below same = absurd (omega (arith, below))
since_next (x ∷ xs) p zero below same = ap (λ b. not b && are_unchanged_since xs p) (sym same)
since_next (x ∷ xs) p (suc r) below same = since_next xs p r (omega (arith, below)) same

pub since_all : (lasts : List ℕ) (p r : ℕ) → length lasts ≤ r → are_unchanged_since (drop r lasts) p ≡ true
since_all [] p zero past = refl
since_all [] p (suc r) past = refl
since_all (x ∷ xs) p zero past = absurd (omega (arith, past))
since_all (x ∷ xs) p (suc r) past = since_all xs p r (omega (arith, past))
