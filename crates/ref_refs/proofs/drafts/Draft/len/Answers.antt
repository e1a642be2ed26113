use Rattle.std.proofs.Common.{ap, length, sym, ◌∙◌}
use Rattle.ref_refs.specs.Drafts.{DraftSeen}
use Rattle.ref_refs.specs.Kept.{after_kept}
use Rattle.ref_refs.proofs.Taken.{all_lasts, all_values}
use Rattle.ref_refs.proofs.drafts.Draft.len.Goals as goal

pub returns-in-Few-clause-value : goal.returns-in-Few-clause-value
returns-in-Few-clause-value c =
    let base = c.self.inside.base.now in
    c.len.ensures.value ∙ sym (all_values c.in-Few.field-0 base)
    ∙ ap (λ k. length (after_kept k base).values) (sym c.in-Few.is) ∙ ap (λ (d : DraftSeen). length d.values) c.self.view_is

pub returns-in-Few-clause-lasts : goal.returns-in-Few-clause-lasts
returns-in-Few-clause-lasts c =
    let base = c.self.inside.base.now in
    sym (ap (λ k. length (after_kept k base).lasts) (sym c.in-Few.is) ∙ ap (λ (d : DraftSeen). length d.lasts) c.self.view_is)
    ∙ all_lasts c.in-Few.field-0 base ∙ c.len.ensures.lasts ∙ sym (all_values c.in-Few.field-0 base)
    ∙ ap (λ k. length (after_kept k base).values) (sym c.in-Few.is) ∙ ap (λ (d : DraftSeen). length d.values) c.self.view_is
