use Rattle.std.proofs.Common.{◌∙◌, ap}
use Rattle.std.proofs.lemmas.Result.{err_from_is_err_and}
use Rattle.ref_events.specs.Reading.{reference_fault_of}
use Rattle.ref_events.proofs.Whole.{no_events, no_parts, no_references}
use Rattle.ref_events.proofs.scripts.script_of.Goals as goal

pub returns-in_err-parts-clause-none : goal.returns-in_err-parts-clause-none
returns-in_err-parts-clause-none c =
    let p = err_from_is_err_and c.from_residual.result c.from_residual.ensures.1 in
    rw (p.1, p.2) (λ _ s w. no_parts _ _ c.in-Some.ensures.some s w c.in_err-parts.ensures.none)

pub returns-in_err-declared-clause-none : goal.returns-in_err-declared-clause-none
returns-in_err-declared-clause-none c =
    let p = err_from_is_err_and c.from_residual-in_err-declared.result c.from_residual-in_err-declared.ensures.1 in
    let has = c.in_ok-parts.ensures in
    rw (p.1, p.2) (λ other s w. no_references _ _ c.in-Some.ensures.some s w _ _ _
    (c.forms_of-refs.ensures ∙ has.refs) (c.forms_of-atoms.ensures ∙ has.atoms) (c.forms_of-agents.ensures ∙ has.agents)
    (c.in_err-declared.ensures.none (λ is. other (ap reference_fault_of is))))

pub returns-in_err-events-clause-none : goal.returns-in_err-events-clause-none
returns-in_err-events-clause-none c =
    let p = err_from_is_err_and c.from_residual-in_err-events.result c.from_residual-in_err-events.ensures.1 in
    let has = c.in_ok-parts.ensures in
    rw (p.1, p.2) (λ other s w. no_events _ _ c.in-Some.ensures.some s w _ _ _
    (c.forms_of-refs.ensures ∙ has.refs) (c.forms_of-atoms.ensures ∙ has.atoms) (c.forms_of-agents.ensures ∙ has.agents)
    _ (c.forms_of-forms.ensures ∙ has.events) _ _ _ _ c.in_ok-declared.ensures.ok (c.in_err-events.ensures.none other))
