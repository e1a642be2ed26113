-- What a replay says of its entries: their functions are Core's, and what an atom was set to was answered.
use Rattle.std.proofs.Common.{◌≡◌, ℕ, ◌+◌, ◌==◌, ◌&&◌, Bool, true, false, not, cond, List, [], ◌∷◌, Option, None, Some, Result, Ok, Err, refl, sym, ap, ◌∙◌, arith}
use Rattle.std.proofs.lemmas.Bool.Decides.{nat_tests}
use Rattle.std.specs.List.{list_all}
use Rattle.std.specs.Prelude.{slice_get}
use Rattle.std.specs.Ordering.{eq_by_cmp}
use Rattle.ref_value.specs.Edn.{Edn}
use Rattle.ref_value.specs.Order.{edn_cmp}
use Rattle.ref_fun.specs.Core.{core_means}
use Rattle.ref_fun.specs.declared.faults.Cause.TheVariants.{WrongArity}
use Rattle.ref_fun.specs.Names.{is_function}
use Rattle.ref_log.specs.Laws.{after_dones-Ok, after_found-Ok, refs_of, replay_from-Ok}
use Rattle.ref_log.specs.Replay.{after_done, after_dones, after_found, after_one, done_of, is_protected, place, replay_from, step, with_atoms}
use Rattle.ref_log.specs.declared.entries.Entry.{Entry}
use Rattle.ref_log.specs.declared.entries.Entry.TheVariants.{Trans, Atom, MadeRef, MadeAtom}
use Rattle.ref_log.specs.declared.faults.AuditFault.{AuditFault}
use Rattle.ref_log.specs.declared.operations.Done.{Done}
use Rattle.ref_log.specs.declared.operations.Op.{Op}
use Rattle.ref_log.specs.declared.operations.Op.TheVariants as ops
use Rattle.ref_log.specs.declared.states.PlainState.{PlainState}
use Rattle.ref_verdict.specs.OfCore.{is_entry_of_core, is_op_of_core}
use Rattle.ref_audit.specs.OwnDump.{is_reset, is_reset_entry}

-- ---- functions

one_code : {A : Type 0} (k code : ℕ) (b : Bool) (x y : A) (z : A) → (code == k) ≡ b → is_function k ≡ true → (y ≡ z → is_function code ≡ true) → cond b x y ≡ z → is_function code ≡ true
one_code k code true x y z test is more e = let same : code ≡ k = grind (arith, nat_tests) in ap is_function same ∙ is
one_code k code false x y z test is more e = more e

no_code : (code : ℕ) (w : Edn) → Err WrongArity ≡ Ok w → is_function code ≡ true
no_code code w e = absurd cc

pub core_called : (code : ℕ) (args : List Edn) (v w : Edn) → core_means code args v ≡ Ok w → is_function code ≡ true
unfolding core_means
core_called code args v w e =
    one_code 1 code (code == 1) _ _ (Ok w) refl refl
    (one_code 2 code (code == 2) _ _ (Ok w) refl refl
    (one_code 3 code (code == 3) _ _ (Ok w) refl refl
    (one_code 4 code (code == 4) _ _ (Ok w) refl refl
    (one_code 5 code (code == 5) _ _ (Ok w) refl refl
    (one_code 6 code (code == 6) _ _ (Ok w) refl refl
    (one_code 7 code (code == 7) _ _ (Ok w) refl refl
    (one_code 8 code (code == 8) _ _ (Ok w) refl refl
    (one_code 9 code (code == 9) _ _ (Ok w) refl refl
    (one_code 10 code (code == 10) _ _ (Ok w) refl refl
    (no_code code w)))))))))) e

op_called : (op : Op) (v w : Edn) → place core_means op v ≡ Ok w → is_op_of_core op ≡ true
op_called (ops.Set x) v w e = refl
op_called (ops.Alter code args) v w e = ap (λ b. b && true) (core_called code args v w e)
op_called (ops.Commute code args) v w e = ap (λ b. b && true) (core_called code args v w e)
op_called ops.Ensure v w e = refl

done_called : (free : Bool) (point : ℕ) (d : Done) (values after : List Edn) → after_one core_means free point d values ≡ Ok after → is_op_of_core d.op ≡ true
done_called free point d values after e =
    let p = after_found-Ok core_means free point d values after (slice_get values d.r) e in
    op_called d.op p.0 p.1 p.3

dones_called : (all : List Done) (point : ℕ) (ds : List Done) (values after : List Edn) → after_dones core_means all point ds (Ok values) ≡ Ok after → list_all (λ d. is_op_of_core d.op) ds ≡ true
dones_called all point [] values after e = refl
dones_called all point (d ∷ ds) values after e =
    let p = after_dones-Ok core_means all point ds (after_done core_means all point d values) after e in
    let first = done_called (not (is_protected all d.r)) point d values p.0 p.1 in
    let rest : after_dones core_means all point ds (Ok p.0) ≡ Ok after = sym (ap (after_dones core_means all point ds) p.1) ∙ e in
    ap (λ b. b && list_all (λ x. is_op_of_core x.op) ds) first ∙ dones_called all point ds p.0 after rest

-- ---- atoms

atoms_of : (state after : PlainState) (atoms : Result (List Edn) AuditFault) → with_atoms state atoms ≡ Ok after → (values : List Edn) × (atoms ≡ Ok values)
atoms_of state after (Ok values) e = (values, refl)
atoms_of state after (Err fault) e = absurd cc

kept_or : (b : Bool) (values : List Edn) (fault : AuditFault) (after : List Edn) → cond b (Ok values) (Err fault) ≡ Ok after → b ≡ true
kept_or true values fault after e = refl
kept_or false values fault after e = absurd cc

set_kept : (point a : ℕ) (op : Op) (answer : Edn) (values after : List Edn) (there : Option Edn) → after_found core_means false point (done_of a op answer) values there ≡ Ok after → is_reset op answer ≡ true
set_kept point a op answer values after None e = absurd cc
set_kept point a (ops.Set v) answer values after (Some old) e = kept_or (eq_by_cmp edn_cmp v answer) _ _ after e
set_kept point a (ops.Alter code args) answer values after (Some old) e = refl
set_kept point a (ops.Commute code args) answer values after (Some old) e = refl
set_kept point a ops.Ensure answer values after (Some old) e = refl

-- ---- entries

step_called : (point : ℕ) (e : Entry) (state after : PlainState) → step core_means point e state ≡ Ok after → (is_entry_of_core e ≡ true) × (is_reset_entry e ≡ true)
step_called point (Trans t) state after e = (dones_called t.dones point t.dones state.refs after.refs (refs_of state after (after_dones core_means t.dones point t.dones (Ok state.refs)) e), refl)
step_called point (Atom a op answer) state after e =
    let p = atoms_of state after (after_one core_means false point (done_of a op answer) state.atoms) e in
    (done_called false point (done_of a op answer) state.atoms p.0 p.1, set_kept point a op answer state.atoms p.0 (slice_get state.atoms a) p.1)
step_called point (MadeRef v) state after e = (refl, refl)
step_called point (MadeAtom v) state after e = (refl, refl)

pub log_called : (point : ℕ) (es : List Entry) (state after : PlainState) → replay_from core_means point es (Ok state) ≡ Ok after → (list_all is_entry_of_core es ≡ true) × (list_all is_reset_entry es ≡ true)
log_called point [] state after r = (refl, refl)
log_called point (e ∷ es) state after r =
    let p = replay_from-Ok core_means (point + 1) es (step core_means (point + 1) e state) after r in
    let here = step_called (point + 1) e state p.0 p.1 in
    let rest : replay_from core_means (point + 1) es (Ok p.0) ≡ Ok after = sym (ap (replay_from core_means (point + 1) es) p.1) ∙ r in
    let more = log_called (point + 1) es p.0 after rest in
    (ap (λ b. b && list_all is_entry_of_core es) here.0 ∙ more.0, ap (λ b. b && list_all is_reset_entry es) here.1 ∙ more.1)
