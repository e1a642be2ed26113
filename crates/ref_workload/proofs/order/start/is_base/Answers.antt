use Rattle.std.proofs.Common.{◌≡◌, refl, sym, ap, ◌∙◌}
use Rattle.ref_workload.specs.Orderly.{base_declared}
use Rattle.ref_workload.proofs.Bases.{base_is}
use Rattle.ref_workload.proofs.order.start.is_base.Goals as goal

pub returns-clause-yes : goal.returns-clause-yes
returns-clause-yes c = λ all.
    let refs = c.as_slice-refs.result.now in
    let atoms = c.as_slice-2.result.now in
    let new = c.if-not-is_new.ensures.yes refl in
    let declared : c.args.base.now ≡ base_declared refs atoms = base_is c.args.base.now refs atoms new.0 new.1 new.2 new.3
    (c.if-not-is_tally.ensures.yes refl) (sym c.as_slice.ensures ∙ c.if-not-are_refs.ensures.yes refl)
    (sym c.as_slice-else-not-are_refs.ensures ∙ c.if-not-are_unchanged.ensures.yes refl) (sym c.as_slice-3.ensures ∙ c.are_atoms.ensures.yes all) in
    declared ∙ (ap (λ rs. base_declared rs atoms) c.as_slice-refs.ensures.value ∙ ap (base_declared c.args.start.now.refs.items) c.as_slice-2.ensures.value)
