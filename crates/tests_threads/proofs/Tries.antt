-- What a try does to the number of free seats, and what all tries of a history come to.
use Rattle.std.proofs.Common.{◌≡◌, ◌≤◌, ◌<◌, ◌+◌, ◌-◌, ℕ, zero, suc, ℤ, pos, ◌-ℤ◌, ◌==◌, ◌&&◌, ◌++◌, Bool, true, false, not, min, List, [], ◌∷◌, Option, Some, None, Result, Ok, Err, if◌then◌else◌, length, slice_get, slice_set, refl, ap, sym, subst, ◌∙◌, arith}
use Rattle.std.proofs.lemmas.Bool.{and_parts, eq-eqb, eqb-true, ne_eqb}
use Rattle.std.proofs.lemmas.Int.{ints}
use Rattle.ref_value.specs.Edn.{Edn, int}
use Rattle.ref_fun.specs.Core.{core_means, core_takes}
use Rattle.ref_fun.specs.Integers.{int_value, is_i64}
use Rattle.ref_fun.specs.Meaning.{Means}
use Rattle.ref_fun.specs.declared.faults.Cause.{Cause}
use Rattle.ref_fun.specs.declared.faults.Cause.TheVariants.{Overflow}
use Rattle.ref_log.specs.Laws.{refs_of, replay_from-Ok, same_value, slice_get-slice_set-here, step-untouched}
use Rattle.ref_log.specs.Replay.{after_dones, after_found, after_one, after_place, is_commute, is_ensure, is_kept, is_protected, place, replay_from, step}
use Rattle.ref_log.specs.Tally.{commits_in, commits_of}
use Rattle.ref_log.specs.declared.entries.Entry.{Entry}
use Rattle.ref_log.specs.declared.entries.Entry.TheVariants.{Trans, Atom, MadeRef, MadeAtom}
use Rattle.ref_log.specs.declared.entries.Transaction.{Transaction}
use Rattle.ref_log.specs.declared.faults.AuditFault.TheVariants.{Answer}
use Rattle.ref_log.specs.declared.operations.Done.{Done}
use Rattle.ref_log.specs.declared.operations.Op.{Op}
use Rattle.ref_log.specs.declared.operations.Op.TheVariants.{Set, Alter, Commute, Ensure}
use Rattle.ref_log.specs.declared.states.PlainState.{PlainState}
use Rattle.tests_threads.specs.Seats.{are_try, is_by, is_nothing, is_number, is_one, is_try, takes_one, tries_by, tries_in, tries_of}

-- ---- what its operation is

is_one-is : (args : List Edn) → is_one args ≡ true → args ≡ int (pos 1) ∷ []
is_one-is (int (pos n) ∷ []) is = ap (λ k. int (pos k) ∷ []) (eqb-true n 1 is)
is_one-is args is = absurd cc

pub takes_one-is : (op : Op) → takes_one op ≡ true → op ≡ Alter 2 (int (pos 1) ∷ [])
takes_one-is (Set w) is = absurd cc
takes_one-is (Alter code args) is =
    let parts = and_parts (code == 2) (is_one args) is in
    ap (λ c. Alter c args) (eqb-true code 2 parts.0) ∙ ap (λ l. Alter 2 l) (is_one-is args parts.1)
takes_one-is (Commute code args) is = absurd cc
takes_one-is Ensure is = absurd cc

pub is_ensure-is : (op : Op) → is_ensure op ≡ true → op ≡ Ensure
is_ensure-is (Set w) is = absurd cc
is_ensure-is (Alter code args) is = absurd cc
is_ensure-is (Commute code args) is = absurd cc
is_ensure-is Ensure is = refl

-- A transaction that is a try has one operation.
only : (sold : Bool) (ds : List Done) → are_try sold ds ≡ true → (d : Done) × (ds ≡ d ∷ []) × (is_try sold d ≡ true)
only sold [] is = absurd cc
only sold (d ∷ []) is = (d, refl, is)
only sold (d ∷ e ∷ ds) is = absurd cc

-- ---- its place

pub one_less : (n : ℤ) (v : Edn) → core_means 2 (int (pos 1) ∷ []) (int n) ≡ Ok v → v ≡ int (n -ℤ pos 1)
one_less n v is = by (is_i64 (n -ℤ pos 1)) (sym (core_takes n (pos 1)) ∙ is)
  where
    by : (b : Bool) → int_value (if b then Ok (n -ℤ pos 1) else Err Overflow) ≡ Ok v → v ≡ int (n -ℤ pos 1)
    by true is = cc
    by false is = absurd cc

pub some_less : (n : ℕ) → pos (suc n) -ℤ pos 1 ≡ pos n
some_less n = omega (arith, ints)

-- If it leaves a number of 0 or more, there was one.
was_some : (n : ℕ) → is_number (int (pos n -ℤ pos 1)) ≡ true → (1 ≤ n) × (pos n -ℤ pos 1 ≡ pos (n - 1))
was_some zero is = absurd cc
was_some (suc n) is = (omega arith, omega (arith, ints))

kept_place : (point : ℕ) (d : Done) (values after : List Edn) (gives : Result Edn Cause) → after_place false point d values gives ≡ Ok after → (gives ≡ Ok d.answer) × (after ≡ slice_set values d.r d.answer)
kept_place point d values after (Err c) is = absurd cc
kept_place point d values after (Ok v) is =
    let set = by (is_kept d v) refl is in
    (ap Ok set.0, set.1)
  where
    by : (b : Bool) → is_kept d v ≡ b → (if b then Ok (slice_set values d.r v) else Err (Answer point)) ≡ Ok after → (v ≡ d.answer) × (after ≡ slice_set values d.r d.answer)
    by true same is =
        let answer = same_value v d.answer same in
        let set : after ≡ slice_set values d.r v = cc in
        (answer, set ∙ ap (slice_set values d.r) answer)
    by false same is = absurd cc

-- An operation that protects its ref sets it to the answer that is kept.
kept : (means : Means) (point : ℕ) (d : Done) (values after : List Edn) (there : Option Edn) → after_found means false point d values there ≡ Ok after
    → (old : Edn) × (there ≡ Some old) × (place means d.op old ≡ Ok d.answer) × (after ≡ slice_set values d.r d.answer)
kept means point d values after None is = absurd cc
kept means point d values after (Some old) is =
    let set = kept_place point d values after (place means d.op old) is in
    (old, refl, set.0, set.1)

protects : (d : Done) → is_commute d.op ≡ false → is_protected (d ∷ []) d.r ≡ true
protects d is = rw (eq-eqb d.r d.r refl, is) refl

alone : (means : Means) (point : ℕ) (d : Done) (values after : List Edn) → is_commute d.op ≡ false → after_dones means (d ∷ []) point (d ∷ []) (Ok values) ≡ Ok after
    → (old : Edn) × (slice_get values d.r ≡ Some old) × (place means d.op old ≡ Ok d.answer) × (after ≡ slice_set values d.r d.answer)
alone means point d values after is applied =
    kept means point d values after (slice_get values d.r) (subst (λ b. after_one means (not b) point d values ≡ Ok after) (protects d is) applied)

below : (values : List Edn) (v : Edn) → slice_get values 0 ≡ Some v → 0 < length values
below [] v is = absurd cc
below (x ∷ xs) v is =
    let more : length (x ∷ xs) ≡ suc (length xs) = refl in
    omega (arith, more)

-- What the number of free seats is after an operation that protects its ref.
answered : (d : Done) (values after : List Edn) (v : Edn) → d.r ≡ 0 → slice_get values 0 ≡ Some v → after ≡ slice_set values d.r d.answer → slice_get after 0 ≡ Some d.answer
answered d values after v at there is =
    ap (λ l. slice_get l 0) (is ∙ ap (λ r. slice_set values r d.answer) at) ∙ slice_get-slice_set-here values 0 d.answer (below values v there)

sells : (point n : ℕ) (d : Done) (values after : List Edn) → is_try true d ≡ true → slice_get values 0 ≡ Some (int (pos n)) → after_dones core_means (d ∷ []) point (d ∷ []) (Ok values) ≡ Ok after
    → (1 ≤ n) × (slice_get after 0 ≡ Some (int (pos (n - 1))))
sells point n d values after is there applied =
    let parts = and_parts ((d.r == 0) && takes_one d.op) (is_number d.answer) is in
    let first = and_parts (d.r == 0) (takes_one d.op) parts.0 in
    let at : d.r ≡ 0 = eqb-true d.r 0 first.0 in
    let op : d.op ≡ Alter 2 (int (pos 1) ∷ []) = takes_one-is d.op first.1 in
    let set = alone core_means point d values after (ap is_commute op) applied in
    let found : slice_get values 0 ≡ Some set.0 = ap (slice_get values) (sym at) ∙ set.1 in
    let old : set.0 ≡ int (pos n) = cc in
    let gives : core_means 2 (int (pos 1) ∷ []) (int (pos n)) ≡ Ok d.answer = ap (λ v. core_means 2 (int (pos 1) ∷ []) v) (sym old) ∙ (ap (λ o. place core_means o set.0) (sym op) ∙ set.2) in
    let answer : d.answer ≡ int (pos n -ℤ pos 1) = one_less (pos n) d.answer gives in
    let some = was_some n (ap is_number (sym answer) ∙ parts.1) in
    (some.0, answered d values after (int (pos n)) at there set.3 ∙ ap Some (answer ∙ ap int some.1))

misses : (point n : ℕ) (d : Done) (values after : List Edn) → is_try false d ≡ true → slice_get values 0 ≡ Some (int (pos n)) → after_dones core_means (d ∷ []) point (d ∷ []) (Ok values) ≡ Ok after
    → (n ≡ 0) × (slice_get after 0 ≡ Some (int (pos n)))
misses point n d values after is there applied =
    let parts = and_parts ((d.r == 0) && is_ensure d.op) (is_nothing d.answer) is in
    let first = and_parts (d.r == 0) (is_ensure d.op) parts.0 in
    let at : d.r ≡ 0 = eqb-true d.r 0 first.0 in
    let op : d.op ≡ Ensure = is_ensure-is d.op first.1 in
    let set = alone core_means point d values after (ap is_commute op) applied in
    let found : slice_get values 0 ≡ Some set.0 = ap (slice_get values) (sym at) ∙ set.1 in
    let old : set.0 ≡ int (pos n) = cc in
    let gives : Ok set.0 ≡ Ok d.answer = ap (λ o. place core_means o set.0) (sym op) ∙ set.2 in
    let answer : d.answer ≡ int (pos n) = cc in
    (eqb-true n 0 (ap is_nothing (sym answer) ∙ parts.1), answered d values after (int (pos n)) at there set.3 ∙ ap Some answer)

-- ---- what entries do

-- What these entries come to: so many seats are left, and as many are sold as are tried for and are there.
pub record Ends (n sales misses : ℕ) (values : List Edn) : Type 0 where
  pub left : slice_get values 0 ≡ Some (int (pos (n - (sales + misses))))
  pub sold : sales ≡ min n (sales + misses)

one_of : Bool → ℕ
one_of b = if b then 1 else 0

trans : (point n : ℕ) (t : Transaction) (state after : PlainState) → slice_get state.refs 0 ≡ Some (int (pos n)) → step core_means point (Trans t) state ≡ Ok after
    → (sold missed : Bool) → are_try true t.dones ≡ sold → are_try false t.dones ≡ missed → 1 ≤ (if sold then 1 else 0) + (if missed then 1 else 0)
    → Ends n (if sold then 1 else 0) (if missed then 1 else 0) after.refs
trans point n t state after there is sold missed sells_one misses_one some = by sold missed sells_one misses_one some
  where
    applied : after_dones core_means t.dones point t.dones (Ok state.refs) ≡ Ok after.refs
    applied = refs_of state after (after_dones core_means t.dones point t.dones (Ok state.refs)) is

    only_applied : (d : Done) → t.dones ≡ d ∷ [] → after_dones core_means (d ∷ []) point (d ∷ []) (Ok state.refs) ≡ Ok after.refs
    only_applied d one = subst (λ (ds : List Done). after_dones core_means ds point ds (Ok state.refs) ≡ Ok after.refs) one applied

    sale : are_try true t.dones ≡ true → (1 ≤ n) × (slice_get after.refs 0 ≡ Some (int (pos (n - 1))))
    sale is =
        let one = only true t.dones is in
        sells point n one.0 state.refs after.refs one.2 there (only_applied one.0 one.1)

    miss : are_try false t.dones ≡ true → (n ≡ 0) × (slice_get after.refs 0 ≡ Some (int (pos n)))
    miss is =
        let one = only false t.dones is in
        misses point n one.0 state.refs after.refs one.2 there (only_applied one.0 one.1)

    by : (sold missed : Bool) → are_try true t.dones ≡ sold → are_try false t.dones ≡ missed → 1 ≤ (if sold then 1 else 0) + (if missed then 1 else 0)
        → Ends n (if sold then 1 else 0) (if missed then 1 else 0) after.refs
    by true true sells_one misses_one some =
        let s = sale sells_one in
        let m = miss misses_one in
        absurd (omega (arith, s.0, m.0))
    by true false sells_one misses_one some =
        let s = sale sells_one in
        record { left = s.1; sold = omega (arith, s.0) }
    by false true sells_one misses_one some =
        let m = miss misses_one in
        let same : n ≡ n - 1 = omega (arith, m.0) in
        record { left = m.1 ∙ ap (λ k. Some (int (pos k))) same; sold = omega (arith, m.0) }
    by false false sells_one misses_one some = absurd (omega (arith, some))

-- An entry that isn't a transaction leaves the number.
left : (point n : ℕ) (e : Entry) (state after : PlainState) → slice_get state.refs 0 ≡ Some (int (pos n)) → step core_means point e state ≡ Ok after → slice_get after.refs 0 ≡ slice_get state.refs 0
    → Ends n 0 0 after.refs
left point n e state after there is same =
    let stays : n ≡ n - (0 + 0) = omega arith in
    record { left = same ∙ (there ∙ ap (λ k. Some (int (pos k))) stays); sold = omega arith }

moves : (point n : ℕ) (e : Entry) (state after : PlainState) → slice_get state.refs 0 ≡ Some (int (pos n)) → step core_means point e state ≡ Ok after
    → commits_in e ≤ tries_in true e + tries_in false e → Ends n (tries_in true e) (tries_in false e) after.refs
moves point n (Trans t) state after there is all = trans point n t state after there is (are_try true t.dones) (are_try false t.dones) refl refl all
moves point n (Atom a op answer) state after there is all = left point n (Atom a op answer) state after there is (step-untouched core_means point (Atom a op answer) state after 0 is refl)
moves point n (MadeRef v) state after there is all =
    let some = below state.refs (int (pos n)) there in
    left point n (MadeRef v) state after there is (step-untouched core_means point (MadeRef v) state after 0 is (ne_eqb (length state.refs) 0 (λ none. absurd (omega (arith, some, none)))))
moves point n (MadeAtom v) state after there is all = left point n (MadeAtom v) state after there is (step-untouched core_means point (MadeAtom v) state after 0 is refl)

-- ---- how many tries there are

not_both : (d : Done) → is_try true d ≡ true → is_try false d ≡ true → ⊥
not_both d sold missed =
    let first = and_parts ((d.r == 0) && takes_one d.op) (is_number d.answer) sold in
    let second = and_parts ((d.r == 0) && is_ensure d.op) (is_nothing d.answer) missed in
    let takes = takes_one-is d.op (and_parts (d.r == 0) (takes_one d.op) first.0).1 in
    let ensures = is_ensure-is d.op (and_parts (d.r == 0) (is_ensure d.op) second.0).1 in
    let same : Alter 2 (int (pos 1) ∷ []) ≡ Ensure = sym takes ∙ ensures in
    cc

one_at_most : (ds : List Done) (sold missed : Bool) → are_try true ds ≡ sold → are_try false ds ≡ missed → (if sold then 1 else 0) + (if missed then 1 else 0) ≤ 1
one_at_most ds true true first second =
    let one = only true ds first in
    let same : are_try false (one.0 ∷ []) ≡ true = ap (are_try false) (sym one.1) ∙ second in
    absurd (not_both one.0 one.2 same)
one_at_most ds true false first second = omega arith
one_at_most ds false true first second = omega arith
one_at_most ds false false first second = omega arith

tries_in-most : (e : Entry) → tries_in true e + tries_in false e ≤ commits_in e
tries_in-most (Trans t) = one_at_most t.dones (are_try true t.dones) (are_try false t.dones) refl refl
tries_in-most (Atom a op answer) = omega arith
tries_in-most (MadeRef v) = omega arith
tries_in-most (MadeAtom v) = omega arith

pub tries_of-most : (es : List Entry) → tries_of true es + tries_of false es ≤ commits_of es
tries_of-most [] = omega arith
tries_of-most (e ∷ es) =
    let here = tries_in-most e in
    let later = tries_of-most es in
    omega (arith, here, later)

-- Where each commit is a try, the number of free seats is known at the end.
pub ends : (point n : ℕ) (es : List Entry) (state after : PlainState) → slice_get state.refs 0 ≡ Some (int (pos n)) → replay_from core_means point es (Ok state) ≡ Ok after
    → commits_of es ≤ tries_of true es + tries_of false es → Ends n (tries_of true es) (tries_of false es) after.refs
ends point n [] state after there is all =
    let refs : after.refs ≡ state.refs = cc in
    let stays : n ≡ n - (0 + 0) = omega arith in
    record { left = ap (λ l. slice_get l 0) refs ∙ (there ∙ ap (λ k. Some (int (pos k))) stays); sold = omega arith }
ends point n (e ∷ es) state after there is all =
    let first = replay_from-Ok core_means (point + 1) es (step core_means (point + 1) e state) after is in
    let rest : replay_from core_means (point + 1) es (Ok first.0) ≡ Ok after = ap (replay_from core_means (point + 1) es) (sym first.1) ∙ is in
    let here_most = tries_in-most e in
    let later_most = tries_of-most es in
    let here = moves (point + 1) n e state first.0 there first.1 (omega (arith, all, later_most)) in
    let later = ends (point + 1) (n - (tries_in true e + tries_in false e)) es first.0 after here.left rest (omega (arith, all, here_most)) in
    joined n (tries_in true e) (tries_in false e) (tries_of true es) (tries_of false es) after.refs here.sold later
  where
    joined : (n a b s m : ℕ) (values : List Edn) → a ≡ min n (a + b) → Ends (n - (a + b)) s m values → Ends n (a + s) (b + m) values
    joined n a b s m values first later =
        let fewer : n - (a + b) - (s + m) ≡ n - (a + s + (b + m)) = omega arith in
        let sold = later.sold in
        record { left = later.left ∙ ap (λ k. Some (int (pos k))) fewer; sold = omega (arith, first, sold) }

-- ---- tries of workers

pub tries_by-both : (worker : ℕ) (sold : Bool) (es more : List Entry) → tries_by worker sold (es ++ more) ≡ tries_by worker sold es + tries_by worker sold more
tries_by-both worker sold [] more = omega arith
tries_by-both worker sold (e ∷ es) more =
    let later = tries_by-both worker sold es more in
    omega (arith, later)

two_workers : (e : Entry) (k : ℕ) (one two : Bool) → is_by 0 e ≡ one → is_by 1 e ≡ two → (if one then k else 0) + (if two then k else 0) ≤ k
two_workers (Trans t) k true true first second =
    let zeroth = eqb-true t.stamp.worker 0 first in
    let oneth = eqb-true t.stamp.worker 1 second in
    absurd (omega (arith, zeroth, oneth))
two_workers e k true false first second = omega arith
two_workers e k false true first second = omega arith
two_workers e k false false first second = omega arith
two_workers (Atom a op answer) k true true first second = absurd cc
two_workers (MadeRef v) k true true first second = absurd cc
two_workers (MadeAtom v) k true true first second = absurd cc

-- The tries of two workers are different ones.
pub tries_by-two : (sold : Bool) (es : List Entry) → tries_by 0 sold es + tries_by 1 sold es ≤ tries_of sold es
tries_by-two sold [] = omega arith
tries_by-two sold (e ∷ es) =
    let here = two_workers e (tries_in sold e) (is_by 0 e) (is_by 1 e) refl refl in
    let later = tries_by-two sold es in
    omega (arith, here, later)
