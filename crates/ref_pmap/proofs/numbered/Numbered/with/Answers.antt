use Rattle.std.proofs.Common.{◌<◌, length, slice_set, subst, sym, ap, arith, ◌∙◌}
use Rattle.std.specs.FinMap.{len}
use Rattle.ref_pmap.specs.ByNumber.{IsByNumber, items_of}
use Rattle.ref_pmap.proofs.Listed.{items_length, with_by_number, with_listed}
use Rattle.ref_pmap.proofs.numbered.Numbered.with.Goals as goal

pub invariant_of-result : goal.invariant_of-result
invariant_of-result g c =
    let m = c.self.inside.map in
    let below : c.args.number < len m = omega (arith, items_length m c.self.invariant, ap length c.self.view_is) in
    subst IsByNumber (sym c.in_ok-with.ensures) (with_by_number m c.args.number c.args.value c.self.invariant below)

pub returns : goal.returns
returns g c =
    let m = c.self.inside.map in
    let below : c.args.number < len m = omega (arith, items_length m c.self.invariant, ap length c.self.view_is) in
    ap items_of c.in_ok-with.ensures ∙ with_listed m c.args.number c.args.value c.self.invariant below ∙ ap (λ xs. slice_set xs c.args.number c.args.value) c.self.view_is
