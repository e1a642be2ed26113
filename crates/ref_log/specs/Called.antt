-- Which functions the operations of a log call. A replay that comes to its end calls just these.
use Rattle.std.specs.Prelude.{◌≡◌, ℕ, ◌+◌, Bool, true, false, not, List, [], ◌∷◌, ◌++◌, Option, None, Some, Result, Ok, Err, refl, slice_get}
use Rattle.std.specs.List.{flat_map}
use Rattle.std.specs.Result.{is_ok}
use Rattle.std.proofs.Common.{◌∙◌, ap, sym}
use Rattle.ref_value.specs.Edn.{Edn}
use Rattle.ref_fun.specs.Meaning.{Means}
use Rattle.ref_log.specs.Laws.{after_dones-Ok, after_found-Ok, replay_from-Ok}
use Rattle.ref_log.specs.Replay.{after_done, after_dones, after_found, after_one, codes_of, done_of, is_protected, needed, needed_from, needed_of_done, needed_of_dones, needed_of_found, needed_of_step, replay, replay_from, state_of, step, with_atoms, with_refs}
use Rattle.ref_log.specs.declared.entries.Entry.{Entry}
use Rattle.ref_log.specs.declared.entries.Entry.TheVariants.{Trans, Atom, MadeRef, MadeAtom}
use Rattle.ref_log.specs.declared.faults.AuditFault.{AuditFault}
use Rattle.ref_log.specs.declared.operations.Done.{Done}
use Rattle.ref_log.specs.declared.states.Base.{Base}
use Rattle.ref_log.specs.declared.states.PlainState.{PlainState}

abbrev pub codes_of_dones : List Done → List ℕ
codes_of_dones dones = flat_map (λ d. codes_of d.op) dones

abbrev pub codes_of_entry : Entry → List ℕ
codes_of_entry (Trans t) = codes_of_dones t.dones
codes_of_entry (Atom a op answer) = codes_of op
codes_of_entry (MadeRef v) = []
codes_of_entry (MadeAtom v) = []

abbrev pub codes_called : List Entry → List ℕ
codes_called entries = flat_map codes_of_entry entries

-- ---- so it is of a replay that comes to its end

found_called : (means : Means) (free : Bool) (point : ℕ) (d : Done) (values after : List Edn) (there : Option Edn) → after_found means free point d values there ≡ Ok after → needed_of_found d there ≡ codes_of d.op
found_called means free point d values after (Some v) is = refl
found_called means free point d values after None is = absurd cc

one_called : (means : Means) (free : Bool) (point : ℕ) (d : Done) (values after : List Edn) → after_one means free point d values ≡ Ok after → needed_of_done d (Ok values) ≡ codes_of d.op
one_called means free point d values after is = found_called means free point d values after (slice_get values d.r) is

dones_called : (means : Means) (all : List Done) (point : ℕ) (ds : List Done) (values after : List Edn) → after_dones means all point ds (Ok values) ≡ Ok after → needed_of_dones means all point ds (Ok values) ≡ codes_of_dones ds
dones_called means all point [] values after is = refl
dones_called means all point (d ∷ ds) values after is =
    let first = after_dones-Ok means all point ds (after_done means all point d values) after is in
    let rest : after_dones means all point ds (Ok first.0) ≡ Ok after = ap (after_dones means all point ds) (sym first.1) ∙ is in
    ap (λ codes. codes ++ needed_of_dones means all point ds (after_done means all point d values)) (one_called means (not (is_protected all d.r)) point d values first.0 first.1)
    ∙ (ap (λ v. codes_of d.op ++ needed_of_dones means all point ds v) first.1 ∙ ap (λ codes. codes_of d.op ++ codes) (dones_called means all point ds first.0 after rest))

refs_ok : (state after : PlainState) (refs : Result (List Edn) AuditFault) → with_refs state refs ≡ Ok after → (values : List Edn) × (refs ≡ Ok values)
refs_ok state after (Ok values) is = (values, refl)
refs_ok state after (Err fault) is = absurd cc

atoms_ok : (state after : PlainState) (atoms : Result (List Edn) AuditFault) → with_atoms state atoms ≡ Ok after → (values : List Edn) × (atoms ≡ Ok values)
atoms_ok state after (Ok values) is = (values, refl)
atoms_ok state after (Err fault) is = absurd cc

step_called : (means : Means) (point : ℕ) (e : Entry) (state after : PlainState) → step means point e state ≡ Ok after → needed_of_step means point e state ≡ codes_of_entry e
step_called means point (Trans t) state after is =
    let done = refs_ok state after (after_dones means t.dones point t.dones (Ok state.refs)) is in
    dones_called means t.dones point t.dones state.refs done.0 done.1
step_called means point (Atom a op answer) state after is =
    let done = atoms_ok state after (after_one means false point (done_of a op answer) state.atoms) is in
    one_called means false point (done_of a op answer) state.atoms done.0 done.1
step_called means point (MadeRef v) state after is = refl
step_called means point (MadeAtom v) state after is = refl

from_called : (means : Means) (point : ℕ) (es : List Entry) (state after : PlainState) → replay_from means point es (Ok state) ≡ Ok after → needed_from means point es (Ok state) ≡ codes_called es
from_called means point [] state after is = refl
from_called means point (e ∷ es) state after is =
    let first = replay_from-Ok means (point + 1) es (step means (point + 1) e state) after is in
    let rest : replay_from means (point + 1) es (Ok first.0) ≡ Ok after = ap (replay_from means (point + 1) es) (sym first.1) ∙ is in
    ap (λ codes. codes ++ needed_from means (point + 1) es (step means (point + 1) e state)) (step_called means (point + 1) e state first.0 first.1)
    ∙ (ap (λ s. codes_of_entry e ++ needed_from means (point + 1) es s) first.1 ∙ ap (λ codes. codes_of_entry e ++ codes) (from_called means (point + 1) es first.0 after rest))

ended : {X : Type 0} (r : Result X AuditFault) → is_ok r ≡ true → (x : X) × (r ≡ Ok x)
ended (Ok x) is = (x, refl)
ended (Err fault) is = absurd cc

pub needed_is_called : (means : Means) (base : Base) (entries : List Entry) → is_ok (replay means base entries) ≡ true → needed means base entries ≡ codes_called entries
needed_is_called means base entries is =
    let end = ended (replay means base entries) is in
    from_called means base.point entries (state_of base) end.0 end.1
