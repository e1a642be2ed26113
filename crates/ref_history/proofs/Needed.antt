-- The functions that a replay of the first entries of a dump calls are Core's.
use Rattle.std.proofs.Common.{◌≡◌, ℕ, ◌+◌, ◌&&◌, Bool, true, false, not, cond, List, [], ◌∷◌, ◌++◌, Option, None, Some, Result, Ok, Err, refl, ap, sym, ◌∙◌, take, drop, arith, ◌≤◌, nat_le}
use Rattle.std.proofs.lemmas.Bool.Decides.{nat_tests}
use Rattle.std.proofs.lemmas.List.{take-append-drop}
use Rattle.std.proofs.lemmas.List.Folds.{list_all-append}
use Rattle.std.specs.List.{list_all}
use Rattle.std.specs.Prelude.{slice_get}
use Rattle.ref_value.specs.Edn.{Edn}
use Rattle.ref_fun.specs.Calls.{HasCore, Known}
use Rattle.ref_fun.specs.Meaning.{Means}
use Rattle.ref_fun.specs.Names.{is_function}
use Rattle.ref_log.specs.Replay.{and_done, and_step, done_of, missing, needed, needed_from, needed_of_done, needed_of_dones, needed_of_entry, needed_of_found, needed_of_step, state_of}
use Rattle.ref_log.specs.declared.entries.Entry.{Entry}
use Rattle.ref_log.specs.declared.entries.Entry.TheVariants.{Trans, Atom, MadeRef, MadeAtom}
use Rattle.ref_log.specs.declared.faults.AuditFault.{AuditFault}
use Rattle.ref_log.specs.declared.operations.Done.{Done}
use Rattle.ref_log.specs.declared.states.Base.{Base}
use Rattle.ref_log.specs.declared.states.PlainState.{PlainState}
use Rattle.ref_verdict.specs.OfCore.{is_entry_of_core, is_op_of_core}

split : (a b : Bool) → (a && b) ≡ true → (a ≡ true) × (b ≡ true)
split true b e = (refl, e)
split false b e = absurd cc

knows_function : (knows : Known) (code : ℕ) → HasCore knows → is_function code ≡ true → knows.funs code ≡ true
knows_function knows code core is =
    let p = split (nat_le 1 code) (nat_le code 10) is in
    let low : nat_le 1 code ≡ true = p.0 in
    let high : nat_le code 10 ≡ true = p.1 in
    let least : 1 ≤ code = grind (arith, nat_tests) in
    let most : code ≤ 10 = grind (arith, nat_tests) in
    core.funs code least most

-- both lists are of functions
together : (xs ys : List ℕ) → list_all is_function xs ≡ true → list_all is_function ys ≡ true → list_all is_function (xs ++ ys) ≡ true
together xs ys p q = list_all-append is_function xs ys ∙ (ap (λ b. b && list_all is_function ys) p ∙ q)

found_called : (d : Done) (there : Option Edn) → is_op_of_core d.op ≡ true → list_all is_function (needed_of_found d there) ≡ true
found_called d None of = refl
found_called d (Some v) of = of

done_called : (d : Done) (values : Result (List Edn) AuditFault) → is_op_of_core d.op ≡ true → list_all is_function (needed_of_done d values) ≡ true
done_called d (Err fault) of = refl
done_called d (Ok values) of = found_called d (slice_get values d.r) of

dones_called : (means : Means) (all : List Done) (point : ℕ) (ds : List Done) (values : Result (List Edn) AuditFault) → list_all (λ d. is_op_of_core d.op) ds ≡ true → list_all is_function (needed_of_dones means all point ds values) ≡ true
dones_called means all point [] values of = refl
dones_called means all point (d ∷ ds) values of =
    let p = split (is_op_of_core d.op) (list_all (λ x. is_op_of_core x.op) ds) of in
    together (needed_of_done d values) (needed_of_dones means all point ds (and_done means all point d values)) (done_called d values p.0) (dones_called means all point ds (and_done means all point d values) p.1)

step_called : (means : Means) (point : ℕ) (e : Entry) (state : PlainState) → is_entry_of_core e ≡ true → list_all is_function (needed_of_step means point e state) ≡ true
step_called means point (Trans t) state of = dones_called means t.dones point t.dones (Ok state.refs) of
step_called means point (Atom a op answer) state of = done_called (done_of a op answer) (Ok state.atoms) of
step_called means point (MadeRef v) state of = refl
step_called means point (MadeAtom v) state of = refl

entry_called : (means : Means) (point : ℕ) (e : Entry) (state : Result PlainState AuditFault) → is_entry_of_core e ≡ true → list_all is_function (needed_of_entry means point e state) ≡ true
entry_called means point e (Err fault) of = refl
entry_called means point e (Ok state) of = step_called means point e state of

from_called : (means : Means) (point : ℕ) (es : List Entry) (state : Result PlainState AuditFault) → list_all is_entry_of_core es ≡ true → list_all is_function (needed_from means point es state) ≡ true
from_called means point [] state of = refl
from_called means point (e ∷ es) state of =
    let p = split (is_entry_of_core e) (list_all is_entry_of_core es) of in
    together (needed_of_entry means (point + 1) e state) (needed_from means (point + 1) es (and_step means (point + 1) e state)) (entry_called means (point + 1) e state p.0) (from_called means (point + 1) es (and_step means (point + 1) e state) p.1)

none_missing : (knows : Known) (codes : List ℕ) → HasCore knows → list_all is_function codes ≡ true → missing knows.funs codes ≡ None
none_missing knows [] core of = refl
none_missing knows (code ∷ codes) core of =
    let p = split (is_function code) (list_all is_function codes) of in
    ap (λ b. cond (not b) (Some code) (missing knows.funs codes)) (knows_function knows code core p.0) ∙ none_missing knows codes core p.1

-- The first entries name functions of Core if all do.
of_first : (k : ℕ) (es : List Entry) → list_all is_entry_of_core es ≡ true → list_all is_entry_of_core (take k es) ≡ true
of_first k es of =
    let parted : (list_all is_entry_of_core (take k es) && list_all is_entry_of_core (drop k es)) ≡ true =
    sym (list_all-append is_entry_of_core (take k es) (drop k es)) ∙ (ap (list_all is_entry_of_core) (take-append-drop k es) ∙ of) in
    (split (list_all is_entry_of_core (take k es)) (list_all is_entry_of_core (drop k es)) parted).0

-- A table with all of Core lacks none of them.
pub nothing_missing : (knows : Known) (means : Means) (base : Base) (es : List Entry) → HasCore knows → list_all is_entry_of_core es ≡ true → missing knows.funs (needed means base es) ≡ None
nothing_missing knows means base es core of = none_missing knows (needed means base es) core (from_called means base.point es (Ok (state_of base)) of)

pub nothing_missing_up_to : (knows : Known) (means : Means) (base : Base) (es : List Entry) (k : ℕ) → HasCore knows → list_all is_entry_of_core es ≡ true → missing knows.funs (needed means base (take k es)) ≡ None
nothing_missing_up_to knows means base es k core of =
    nothing_missing knows means base (take k es) core (of_first k es of)
