use Rattle.std.proofs.Common.{ap, slice_get, sym, ◌∙◌}
use Rattle.std.specs.Option.{option_map, option_or}
use Rattle.std.proofs.lemmas.Option.{slice_get_within}
use Rattle.ref_tx.specs.declared.snapshots.Version.{Version}
use Rattle.ref_refs.specs.Drafts.{DraftSeen}
use Rattle.ref_refs.specs.Kept.{after_kept}
use Rattle.ref_refs.proofs.Taken.{value_at, value_none}
use Rattle.ref_refs.proofs.drafts.Draft.get.Goals as goal

pub returns-in-None : goal.returns-in-None
returns-in-None c =
    let base = c.self.inside.base.now in
    value_none c.in-Few.late base c.args.r (sym c.in-None.ensures)
    ∙ ap (λ k. slice_get (after_kept k base).values c.args.r) (sym c.in-Few.is) ∙ ap (λ (d : DraftSeen). slice_get d.values c.args.r) c.self.view_is

pub returns-in-Some-latest : goal.returns-in-Some-latest
returns-in-Some-latest c =
    let base = c.self.inside.base.now in
    ap (λ o. option_or (option_map (λ (v : Version). v.value) o) (slice_get base.values c.args.r)) c.in-Some-latest.ensures
    ∙ sym (value_at c.in-Few.late base c.args.r (slice_get_within base.values c.args.r c.in-Some.before.now (sym c.in-Some.ensures)))
    ∙ ap (λ k. slice_get (after_kept k base).values c.args.r) (sym c.in-Few.is) ∙ ap (λ (d : DraftSeen). slice_get d.values c.args.r) c.self.view_is

pub returns-in-None-latest : goal.returns-in-None-latest
returns-in-None-latest c =
    let base = c.self.inside.base.now in
    c.in-Some.ensures
    ∙ ap (λ o. option_or (option_map (λ (v : Version). v.value) o) (slice_get base.values c.args.r)) c.in-None-latest.ensures
    ∙ sym (value_at c.in-Few.late base c.args.r (slice_get_within base.values c.args.r c.in-Some.before.now (sym c.in-Some.ensures)))
    ∙ ap (λ k. slice_get (after_kept k base).values c.args.r) (sym c.in-Few.is) ∙ ap (λ (d : DraftSeen). slice_get d.values c.args.r) c.self.view_is
