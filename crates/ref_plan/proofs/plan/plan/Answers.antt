use Rattle.std.proofs.Common.{◌∙◌}
use Rattle.std.proofs.lemmas.Result.{err_from_is_err_and}
use Rattle.ref_plan.proofs.Whole.{no_parts, no_workers}
use Rattle.ref_plan.proofs.plan.plan.Goals as goal

pub returns-in_err-parts-clause-none : goal.returns-in_err-parts-clause-none
returns-in_err-parts-clause-none c =
    let p = err_from_is_err_and c.from_residual.result c.from_residual.ensures.1 in
    rw (p.1, p.2) (λ _ plan w. no_parts _ _ c.in-Some.ensures.some plan w c.in_err-parts.ensures.none)

pub returns-clause-none : goal.returns-clause-none
returns-clause-none c =
    let has = c.in_ok-parts.ensures in
    λ other p w. no_workers _ _ c.in-Some.ensures.some p w _ _ _ _
    (c.forms_of-refs.ensures ∙ has.refs) (c.forms_of-atoms.ensures ∙ has.atoms) (c.forms_of-agents.ensures ∙ has.agents) (c.forms_of-forms.ensures ∙ has.workers)
    _ _ has.ok _ _ _ _ c.in_ok-declared.ensures.ok (c.in-Err.ensures.none other)
