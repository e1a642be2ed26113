-- Laws of folding the first entries of a log into its base, for the owner of one.
use Rattle.std.specs.Prelude.{◌≡◌, ℕ, zero, suc, ◌+◌, ◌<◌, ◌≤◌, ◌==◌, ◌&&◌, ◌||◌, not, false, Bool, Result, Ok, Option, Some, List, [], ◌∷◌, ◌++◌, length, slice_get, slice_index_or, if◌then◌else◌, refl}
use Rattle.std.proofs.Common.{◌∙◌, ap, sym, arith}
use Rattle.std.proofs.Common.{◌⊎◌, inl, inr}
use Rattle.std.proofs.lemmas.Bool.{cases_lt, ne_eqb}
use Rattle.std.proofs.lemmas.List.{get_or_past}
use Rattle.ref_value.specs.Edn.{Edn}
use Rattle.ref_fun.specs.Meaning.{Means}
use Rattle.ref_log.specs.Fold.{IsFolded}
use Rattle.ref_log.specs.Laws.{after_done-length, after_dones-Ok, after_found-Ok, refs_of, replay-refs, replay_from-Ok, replay_from-refs, step-refs}
use Rattle.ref_log.specs.Replay.{after_done, after_dones, and_step, is_changed_by, is_ensure, is_protected, is_touched, last_change, last_change_from, refs_after, refs_after_one, replay, replay_from, state_of, step}
use Rattle.ref_log.specs.Tally.{commits_of, moved_of}
use Rattle.ref_log.specs.declared.counting.Side.{Side}
use Rattle.ref_log.specs.declared.faults.AuditFault.{AuditFault}
use Rattle.ref_log.specs.declared.operations.Done.{Done}
use Rattle.ref_log.specs.declared.entries.Entry.{Entry}
use Rattle.ref_log.specs.declared.entries.Entry.TheVariants.{Trans, Atom, MadeRef, MadeAtom}
use Rattle.ref_log.specs.declared.states.Base.{Base}
use Rattle.ref_log.specs.declared.states.PlainState.{PlainState}

-- ---- entries and others behind them

pub replay_from-both : (means : Means) (p : ℕ) (xs ys : List Entry) (state : Result PlainState AuditFault) → replay_from means p (xs ++ ys) state ≡ replay_from means (p + length xs) ys (replay_from means p xs state)
replay_from-both means p [] ys state =
    let none : p ≡ p + length {A = Entry} [] = omega arith in
    ap (λ q. replay_from means q ys state) none
replay_from-both means p (x ∷ xs) ys state =
    let next : p + 1 + length xs ≡ p + length (x ∷ xs) = omega arith in
    replay_from-both means (p + 1) xs ys (and_step means (p + 1) x state) ∙ ap (λ q. replay_from means q ys (replay_from means (p + 1) xs (and_step means (p + 1) x state))) next

pub refs_after-both : (n : ℕ) (xs ys : List Entry) → refs_after n (xs ++ ys) ≡ refs_after (refs_after n xs) ys
refs_after-both n [] ys = refl
refs_after-both n (x ∷ xs) ys = refs_after-both (refs_after_one n x) xs ys

pub last_change_from-both : (p n : ℕ) (xs ys : List Entry) (r before : ℕ) → last_change_from p n (xs ++ ys) r before ≡ last_change_from (p + length xs) (refs_after n xs) ys r (last_change_from p n xs r before)
last_change_from-both p n [] ys r before =
    let none : p ≡ p + length {A = Entry} [] = omega arith in
    ap (λ q. last_change_from q n ys r before) none
last_change_from-both p n (x ∷ xs) ys r before =
    let next : p + 1 + length xs ≡ p + length (x ∷ xs) = omega arith in
    let more = refs_after_one n x in
    let first = if is_changed_by n x r then p + 1 else before in
    last_change_from-both (p + 1) more xs ys r first ∙ ap (λ q. last_change_from q (refs_after more xs) ys r (last_change_from (p + 1) more xs r first)) next

none_more : (n : ℕ) → n ≡ 0 + n
none_more n = omega arith

pub commits_of-both : (xs ys : List Entry) → commits_of (xs ++ ys) ≡ commits_of xs + commits_of ys
commits_of-both [] ys = none_more (commits_of ys)
commits_of-both (x ∷ xs) ys =
    let more = commits_of-both xs ys in
    omega (arith, more)

pub moved_of-both : (side : Side) (tally : Option ℕ) (xs ys : List Entry) → moved_of side tally (xs ++ ys) ≡ moved_of side tally xs + moved_of side tally ys
moved_of-both side tally [] ys = none_more (moved_of side tally ys)
moved_of-both side tally (x ∷ xs) ys =
    let more = moved_of-both side tally xs ys in
    omega (arith, more)

-- ---- what is folded, and the entries that are left

-- The entries that are left have the replay on the new base that all had on the old one.
pub replay-fold : (means : Means) (base : Base) (xs ys : List Entry) (after : Base) → IsFolded means base xs after → replay means base (xs ++ ys) ≡ replay means after ys
replay-fold means base xs ys after is =
    replay_from-both means base.point xs ys (Ok (state_of base))
    ∙ (ap (replay_from means (base.point + length xs) ys) is.replayed
    ∙ ap (λ p. replay_from means p ys (Ok (state_of after))) (sym is.point))

-- And each ref has the last change that it had.
pub last_change-fold : (means : Means) (base : Base) (xs ys : List Entry) (after : Base) → IsFolded means base xs after → (r : ℕ) → last_change base (xs ++ ys) r ≡ last_change after ys r
last_change-fold means base xs ys after is r =
    let refs : length after.refs ≡ refs_after (length base.refs) xs = replay-refs means base xs (state_of after) is.replayed in
    last_change_from-both base.point (length base.refs) xs ys r (slice_index_or base.last r 0)
    ∙ (ap (λ p. last_change_from p (refs_after (length base.refs) xs) ys r (last_change base xs r)) (sym is.point)
    ∙ (ap (λ n. last_change_from after.point n ys r (last_change base xs r)) (sym refs)
    ∙ ap (λ l. last_change_from after.point (length after.refs) ys r l) (sym (is.changed r))))

-- ---- refs that aren't there have no change

slice_get-below : (values : List Edn) (r : ℕ) (v : Edn) → slice_get values r ≡ Some v → r < length values
slice_get-below [] r v is = absurd cc
slice_get-below (x ∷ xs) zero v is = omega arith
slice_get-below (x ∷ xs) (suc r) v is =
    let below = slice_get-below xs r v is in
    omega (arith, below)

and_false : (a b : Bool) → a ≡ false → (a && b) ≡ false
and_false a b is = rw is refl

or_false : (a b : Bool) → a ≡ false → b ≡ false → (a || b) ≡ false
or_false a b first later = rw (first, later) refl

untouched : (means : Means) (all : List Done) (point : ℕ) (ds : List Done) (values after : List Edn) (r : ℕ) → after_dones means all point ds (Ok values) ≡ Ok after → length values ≤ r → is_touched ds r ≡ false
untouched means all point [] values after r is past = refl
untouched means all point (d ∷ ds) values after r is past =
    let first = after_dones-Ok means all point ds (after_done means all point d values) after is in
    let rest : after_dones means all point ds (Ok first.0) ≡ Ok after = ap (after_dones means all point ds) (sym first.1) ∙ is in
    let set = after_found-Ok means (not (is_protected all d.r)) point d values first.0 (slice_get values d.r) first.1 in
    let below = slice_get-below values d.r set.0 set.2 in
    let many = after_done-length means all point d values first.0 first.1 in
    let other : (d.r == r) ≡ false = ne_eqb d.r r (λ same. absurd (omega (arith, same, below, past))) in
    or_false (d.r == r && not (is_ensure d.op)) (is_touched ds r) (and_false (d.r == r) (not (is_ensure d.op)) other)
    (untouched means all point ds first.0 after r rest (omega (arith, many, past)))

unchanged : (means : Means) (p : ℕ) (e : Entry) (state after : PlainState) (r : ℕ) → step means p e state ≡ Ok after → length after.refs ≤ r → is_changed_by (length state.refs) e r ≡ false
unchanged means p (Trans t) state after r is past =
    let many = step-refs means p (Trans t) state after is in
    untouched means t.dones p t.dones state.refs after.refs r (refs_of state after (after_dones means t.dones p t.dones (Ok state.refs)) is) (omega (arith, many, past))
unchanged means p (Atom a op answer) state after r is past = refl
unchanged means p (MadeRef v) state after r is past =
    let many = step-refs means p (MadeRef v) state after is in
    ne_eqb (length state.refs) r (λ same. absurd (omega (arith, same, many, past)))
unchanged means p (MadeAtom v) state after r is past = refl

one_grows : (n : ℕ) (e : Entry) → n ≤ refs_after_one n e
one_grows n (Trans t) = omega arith
one_grows n (Atom a op answer) = omega arith
one_grows n (MadeRef v) = omega arith
one_grows n (MadeAtom v) = omega arith

grows : (n : ℕ) (es : List Entry) → n ≤ refs_after n es
grows n [] = omega arith
grows n (e ∷ es) =
    let one = one_grows n e in
    let more = grows (refs_after_one n e) es in
    omega (arith, one, more)

absent_from : (means : Means) (p : ℕ) (es : List Entry) (state after : PlainState) (r before : ℕ) → replay_from means p es (Ok state) ≡ Ok after → length after.refs ≤ r → last_change_from p (length state.refs) es r before ≡ before
absent_from means p [] state after r before is past = refl
absent_from means p (e ∷ es) state after r before is past =
    let first = replay_from-Ok means (p + 1) es (step means (p + 1) e state) after is in
    let rest : replay_from means (p + 1) es (Ok first.0) ≡ Ok after = ap (replay_from means (p + 1) es) (sym first.1) ∙ is in
    let many = replay_from-refs means (p + 1) es first.0 after rest in
    let more = grows (length first.0.refs) es in
    let leaves = unchanged means (p + 1) e state first.0 r first.1 (omega (arith, many, more, past)) in
    ap (λ n. last_change_from (p + 1) n es r (if is_changed_by (length state.refs) e r then p + 1 else before)) (sym (step-refs means (p + 1) e state first.0 first.1))
    ∙ (ap (λ b. last_change_from (p + 1) (length first.0.refs) es r (if b then p + 1 else before)) leaves
    ∙ absent_from means (p + 1) es first.0 after r before rest past)

-- So the last changes of the refs that are there are those of all numbers.
pub last_change-all : (means : Means) (base : Base) (es : List Entry) (after : PlainState) (lasts : List ℕ) → replay means base es ≡ Ok after → length base.last ≡ length base.refs → length lasts ≡ refs_after (length base.refs) es
    → ((r : ℕ) → r < length lasts → slice_index_or lasts r 0 ≡ last_change base es r) → (r : ℕ) → slice_index_or lasts r 0 ≡ last_change base es r
last_change-all means base es after lasts is lasts_before count marks r = by (cases_lt r (length lasts)) where
  by : (r < length lasts) ⊎ (length lasts ≤ r) → slice_index_or lasts r 0 ≡ last_change base es r
  by (inl below) = marks r below
  by (inr past) =
      let many = replay-refs means base es after is in
      let more = grows (length base.refs) es in
      get_or_past lasts r 0 past
      ∙ (sym (get_or_past base.last r 0 (omega (arith, lasts_before, count, more, past)))
      ∙ sym (absent_from means base.point es (state_of base) after r (slice_index_or base.last r 0) is (omega (arith, many, count, past))))
