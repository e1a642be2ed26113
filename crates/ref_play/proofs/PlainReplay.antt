-- What a replay gives, in plain words.
use Rattle.std.proofs.Common.{◌≡◌, ℕ, ◌+◌, false, List, [], ◌∷◌, ◌++◌, Result, Ok, Err, slice_get, slice_set, refl, sym, ap, ◌∙◌}
use Rattle.ref_value.specs.Edn.{Edn}
use Rattle.ref_fun.specs.Meaning.{Means}
use Rattle.ref_log.specs.Laws.{is_kept-itself, refs_of, replay_from-Ok, same_value}
use Rattle.ref_log.specs.Replay.{after_dones, after_found, after_one, after_place, done_of, replay_from, state_of, step, with_atoms, with_refs}
use Rattle.ref_log.specs.declared.entries.Entry.{Entry}
use Rattle.ref_log.specs.declared.entries.Entry.TheVariants.{Trans, Atom, MadeRef, MadeAtom}
use Rattle.ref_log.specs.declared.faults.AuditFault.{AuditFault}
use Rattle.ref_log.specs.declared.states.PlainState.{PlainState}
use Rattle.ref_play.specs.Plain.{ReplayMeans, RunsTo, StepsTo}
use Rattle.ref_play.proofs.PlainCommits.{after_leads, applied, leads_after, makes_place, place_kept, place_makes}

same_atoms : (state after : PlainState) (refs : Result (List Edn) AuditFault) → with_refs state refs ≡ Ok after → after.atoms ≡ state.atoms
same_atoms state after (Ok refs) is = cc
same_atoms state after (Err fault) is = absurd cc

same_refs : (state after : PlainState) (atoms : Result (List Edn) AuditFault) → with_atoms state atoms ≡ Ok after → after.refs ≡ state.refs
same_refs state after (Ok atoms) is = cc
same_refs state after (Err fault) is = absurd cc

atoms_of : (state after : PlainState) (atoms : Result (List Edn) AuditFault) → with_atoms state atoms ≡ Ok after → atoms ≡ Ok after.atoms
atoms_of state after (Ok atoms) is = ap Ok cc
atoms_of state after (Err fault) is = absurd cc

step_by : (means : Means) (point : ℕ) (e : Entry) (state after : PlainState) → step means point e state ≡ Ok after → StepsTo means e state after
step_by means point (Trans t) state after is =
    let made = after_dones means t.dones point t.dones (Ok state.refs) in
    (after_leads means t.dones point t.dones state.refs after.refs (refs_of state after made is), same_atoms state after made is)
step_by means point (Atom a op answer) state after is =
    let made = after_one means false point (done_of a op answer) state.atoms in
    let one = applied means false point (done_of a op answer) state.atoms after.atoms (slice_get state.atoms a) (atoms_of state after made is) in
    let kept : one.1 ≡ answer = same_value one.1 answer one.4 in
    (same_refs state after made is, (one.0, one.2, place_makes means op one.0 answer (one.3 ∙ ap Ok kept), one.5 ∙ ap (slice_set state.atoms a) kept))
step_by means point (MadeRef v) state after is = (cc, cc)
step_by means point (MadeAtom v) state after is = (cc, cc)

-- a state of these
abbrev made_of : List Edn → List Edn → PlainState
made_of refs atoms = record { refs = refs; atoms = atoms }

same_state : (refs atoms : List Edn) (after : PlainState) → after.refs ≡ refs → after.atoms ≡ atoms → made_of refs atoms ≡ after
same_state refs atoms after a b = λ i. record { refs = sym a i; atoms = sym b i }

by_step : (means : Means) (point : ℕ) (e : Entry) (state after : PlainState) → StepsTo means e state after → step means point e state ≡ Ok after
by_step means point (Trans t) state after (leads, same) =
    ap (with_refs state) (leads_after means t.dones point t.dones state.refs after.refs leads) ∙ ap Ok (same_state after.refs state.atoms after refl same)
by_step means point (Atom a op answer) state after (same, (v, here, makes, set)) =
    let d = done_of a op answer in
    let made : after_one means false point d state.atoms ≡ Ok (slice_set state.atoms a answer) =
    ap (after_found means false point d state.atoms) here
    ∙ (ap (after_place false point d state.atoms) (makes_place means op v answer makes) ∙ place_kept false point d state.atoms answer (is_kept-itself d)) in
    ap (with_atoms state) made ∙ ap Ok (same_state state.refs (slice_set state.atoms a answer) after same set)
by_step means point (MadeRef v) state after (refs, atoms) = ap Ok (same_state (state.refs ++ v ∷ []) state.atoms after refs atoms)
by_step means point (MadeAtom v) state after (refs, atoms) = ap Ok (same_state state.refs (state.atoms ++ v ∷ []) after refs atoms)

runs_by : (means : Means) (point : ℕ) (es : List Entry) (state after : PlainState) → replay_from means point es (Ok state) ≡ Ok after → RunsTo means es state after
runs_by means point [] state after is = cc
runs_by means point (e ∷ es) state after is =
    let first = replay_from-Ok means (point + 1) es (step means (point + 1) e state) after is in
    let rest : replay_from means (point + 1) es (Ok first.0) ≡ Ok after = ap (replay_from means (point + 1) es) (sym first.1) ∙ is in
    (first.0, step_by means (point + 1) e state first.0 first.1, runs_by means (point + 1) es first.0 after rest)

by_runs : (means : Means) (point : ℕ) (es : List Entry) (state after : PlainState) → RunsTo means es state after → replay_from means point es (Ok state) ≡ Ok after
by_runs means point [] state after runs = ap Ok runs
by_runs means point (e ∷ es) state after (next, steps, runs) =
    ap (replay_from means (point + 1) es) (by_step means (point + 1) e state next steps) ∙ by_runs means (point + 1) es next after runs

pub replay_means : (means : Means) → ReplayMeans means
replay_means means base es after = (runs_by means base.point es (state_of base) after, by_runs means base.point es (state_of base) after)
