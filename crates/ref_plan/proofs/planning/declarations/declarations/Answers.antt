use Rattle.std.proofs.lemmas.Result.{err_from_is_err_and}
use Rattle.ref_plan.specs.Declarations.{atom_of, ref_of}
use Rattle.ref_plan.specs.Laws.{same_names}
use Rattle.ref_plan.proofs.Tables.{with_both, with_refs}
use Rattle.ref_plan.proofs.planning.declarations.declarations.Goals as goal

pub returns-in_err-atom_names-clause-none : goal.returns-in_err-atom_names-clause-none
returns-in_err-atom_names-clause-none c =
    let p = err_from_is_err_and c.from_residual-in_err-atom_names.result c.from_residual-in_err-atom_names.ensures.1 in
    rw (p.1, p.2) (λ other names refs atoms agents all.
    let same = same_names (ref_of c.args.judged) _ _ _ _ _ c.in_ok-ref_names.ensures.ok all.refs_are in
    c.in_err-atom_names.ensures.none other names atoms (with_refs _ _ _ same c.in_ok-ref_names.ensures.known) all.atoms_are all.apart)

pub returns-in_err-agent_names-clause-none : goal.returns-in_err-agent_names-clause-none
returns-in_err-agent_names-clause-none c =
    let p = err_from_is_err_and c.from_residual-in_err-agent_names.result c.from_residual-in_err-agent_names.ensures.1 in
    rw (p.1, p.2) (λ other names refs atoms agents all.
    let same = same_names (ref_of c.args.judged) _ _ _ _ _ c.in_ok-ref_names.ensures.ok all.refs_are in
    let same_atoms = same_names (atom_of c.args.judged) _ _ _ _ _ c.in_ok-atom_names.ensures.ok all.atoms_are in
    let known = c.in_ok-atom_names.ensures.known _ c.in_ok-ref_names.ensures.known in
    c.in_err-agent_names.ensures.none other names agents (with_both _ _ _ _ _ same same_atoms known) all.agents_are all.apart)
