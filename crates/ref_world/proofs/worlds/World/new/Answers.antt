use Rattle.std.proofs.Common.{refl, sym}
use Rattle.std.proofs.lemmas.Result.{err_from_is_err_and}
use Rattle.ref_world.specs.Starts.{no_agents, no_atoms, no_refs, with_agent, with_atom, with_ref}
use Rattle.ref_world.proofs.Starting.{first_made}
use Rattle.ref_world.proofs.worlds.World.new.Goals as goal

pub returns-in_err-atoms-clause-memory : goal.returns-in_err-atoms-clause-memory
returns-in_err-atoms-clause-memory g c =
    let accepts = g.M.Meaning.accepts in
    let knows = (g.F.Functions.knows c.args.funs.now).preds in
    let p = err_from_is_err_and c.from_residual-in_err-atoms.result c.from_residual-in_err-atoms.ensures.1 in
    rw (p.1, p.2, sym c.deref.ensures.value, sym c.deref-2.ensures.value)
    (λ short. first_made (with_ref accepts knows) c.deref.result.now no_refs c.in_ok-refs.refs _ c.in_ok-refs.ensures.ok (c.in_err-atoms.ensures.memory short _))

pub returns-in_err-agents-clause-memory : goal.returns-in_err-agents-clause-memory
returns-in_err-agents-clause-memory g c =
    let accepts = g.M.Meaning.accepts in
    let knows = (g.F.Functions.knows c.args.funs.now).preds in
    let p = err_from_is_err_and c.from_residual-in_err-agents.result c.from_residual-in_err-agents.ensures.1 in
    rw (p.1, p.2, sym c.deref.ensures.value, sym c.deref-2.ensures.value, sym c.deref-3.ensures.value)
    (λ short. first_made (with_ref accepts knows) c.deref.result.now no_refs c.in_ok-refs.refs _ c.in_ok-refs.ensures.ok
    (first_made (with_atom accepts knows) c.deref-2.result.now no_atoms c.in_ok-atoms.atoms _ c.in_ok-atoms.ensures.ok (c.in_err-agents.ensures.memory short _)))

pub returns-in_default-clause-memory : goal.returns-in_default-clause-memory
returns-in_default-clause-memory g c =
    let accepts = g.M.Meaning.accepts in
    let knows = (g.F.Functions.knows c.args.funs.now).preds in
    rw (sym c.deref.ensures.value, sym c.deref-2.ensures.value, sym c.deref-3.ensures.value)
    (λ short. first_made (with_ref accepts knows) c.deref.result.now no_refs c.in_ok-refs.refs _ c.in_ok-refs.ensures.ok
    (first_made (with_atom accepts knows) c.deref-2.result.now no_atoms c.in_ok-atoms.atoms _ c.in_ok-atoms.ensures.ok
    (first_made (with_agent accepts knows) c.deref-3.result.now no_agents c.in_ok-agents.agents _ c.in_ok-agents.ensures.ok refl)))

pub returns-in_default-new-clause-memory : goal.returns-in_default-new-clause-memory
returns-in_default-new-clause-memory g c =
    let accepts = g.M.Meaning.accepts in
    let knows = (g.F.Functions.knows c.args.funs.now).preds in
    rw (sym c.deref.ensures.value, sym c.deref-2.ensures.value, sym c.deref-3.ensures.value)
    (λ short. first_made (with_ref accepts knows) c.deref.result.now no_refs c.in_ok-refs.refs _ c.in_ok-refs.ensures.ok
    (first_made (with_atom accepts knows) c.deref-2.result.now no_atoms c.in_ok-atoms.atoms _ c.in_ok-atoms.ensures.ok
    (first_made (with_agent accepts knows) c.deref-3.result.now no_agents c.in_ok-agents.agents _ c.in_ok-agents.ensures.ok refl)))
