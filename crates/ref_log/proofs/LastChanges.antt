-- The last changes of the refs that are there, entry by entry.
use Rattle.std.proofs.Common.{◌≡◌, ℕ, ◌+◌, ◌<◌, ◌≤◌, ◌==◌, ◌&&◌, ◌||◌, true, false, Bool, List, [], ◌∷◌, ◌++◌, cond, refl, ap, sym, ◌∙◌, arith}
use Rattle.std.proofs.Common.{◌⊎◌, inl, inr}
use Rattle.std.proofs.lemmas.Bool.{cases_lt, eq-eqb}
use Rattle.ref_log.specs.Replay.{is_changed_by, last_change_from, refs_after, refs_after_one}
use Rattle.ref_log.specs.declared.entries.Entry.{Entry}
use Rattle.ref_log.specs.declared.entries.Entry.TheVariants.{Trans, Atom, MadeRef, MadeAtom}

-- one operation more
touched_by : (b t : Bool) (point old new : ℕ) → new ≡ cond b point old → cond t point new ≡ cond (b || t) point old
touched_by true true point old new is = refl
touched_by true false point old new is = is
touched_by false true point old new is = refl
touched_by false false point old new is = is

-- A ref that is made by an entry to come has the point of that entry or a later one, whatever it had before.
made_by : (p n : ℕ) (e : Entry) (es : List Entry) (r x y : ℕ) (b : Bool)
    → ((u v : ℕ) → last_change_from (p + 1) (refs_after_one n e) es r u ≡ last_change_from (p + 1) (refs_after_one n e) es r v)
    → last_change_from (p + 1) (refs_after_one n e) es r (cond b (p + 1) x) ≡ last_change_from (p + 1) (refs_after_one n e) es r (cond b (p + 1) y)
made_by p n e es r x y b same = same (cond b (p + 1) x) (cond b (p + 1) y)

made_here : (n : ℕ) (e : Entry) (r : ℕ) → n ≤ r → r < refs_after_one n e → is_changed_by n e r ≡ true
made_here n (Trans t) r h k = absurd (omega (arith, h, k))
made_here n (Atom a op answer) r h k = absurd (omega (arith, h, k))
made_here n (MadeRef v) r h k =
    let same : n ≡ r = omega (arith, h, k) in
    eq-eqb n r same
made_here n (MadeAtom v) r h k = absurd (omega (arith, h, k))

made_step : (p n : ℕ) (e : Entry) (es : List Entry) (r x y : ℕ) → n ≤ r
    → (refs_after_one n e ≤ r → (u v : ℕ) → last_change_from (p + 1) (refs_after_one n e) es r u ≡ last_change_from (p + 1) (refs_after_one n e) es r v)
    → (r < refs_after_one n e) ⊎ (refs_after_one n e ≤ r) → last_change_from p n (e ∷ es) r x ≡ last_change_from p n (e ∷ es) r y
made_step p n e es r x y past same (inl made) =
    let is = made_here n e r past made in
    ap (λ b. last_change_from (p + 1) (refs_after_one n e) es r (cond b (p + 1) x)) is
    ∙ ap (λ b. last_change_from (p + 1) (refs_after_one n e) es r (cond b (p + 1) y)) (sym is)
made_step p n e es r x y past same (inr later) = made_by p n e es r x y (is_changed_by n e r) (same later)

pub made_later : (p n : ℕ) (es : List Entry) (r x y : ℕ) → n ≤ r → r < refs_after n es → last_change_from p n es r x ≡ last_change_from p n es r y
made_later p n [] r x y past below = absurd (omega (arith, past, below))
made_later p n (e ∷ es) r x y past below =
    made_step p n e es r x y past (λ later u v. made_later (p + 1) (refs_after_one n e) es r u v later below) (cases_lt r (refs_after_one n e))

-- one entry more
pub changed_step : (p n : ℕ) (e : Entry) (es : List Entry) (r old new n_after : ℕ) → n_after ≡ refs_after_one n e → r < refs_after n_after es
    → (r < n_after → new ≡ cond (is_changed_by n e r) (p + 1) old) → last_change_from (p + 1) n_after es r new ≡ last_change_from p n (e ∷ es) r old
changed_step p n e es r old new n_after count below marks =
    by (cases_lt r n_after) ∙ ap (λ m. last_change_from (p + 1) m es r (cond (is_changed_by n e r) (p + 1) old)) count where
      by : (r < n_after) ⊎ (n_after ≤ r) → last_change_from (p + 1) n_after es r new ≡ last_change_from (p + 1) n_after es r (cond (is_changed_by n e r) (p + 1) old)
      by (inl here) = ap (last_change_from (p + 1) n_after es r) (marks here)
      by (inr later) = made_later (p + 1) n_after es r new (cond (is_changed_by n e r) (p + 1) old) later below
