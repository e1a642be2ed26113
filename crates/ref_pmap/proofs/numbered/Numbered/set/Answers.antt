use Rattle.std.proofs.Common.{◌<◌, length, ap, arith}
use Rattle.std.specs.FinMap.{len}
use Rattle.ref_pmap.proofs.Listed.{items_length, kept_listed, set_by_number, set_listed}
use Rattle.ref_pmap.proofs.numbered.Numbered.set.Goals as goal

pub set-requires : goal.set-requires
set-requires g c =
    let m = c.self.inside.map in
    c.self.invariant.there c.args.number (omega (arith, c.requires, items_length m c.self.invariant, ap length c.self.view_is))

pub invariant_of-self : goal.invariant_of-self
invariant_of-self g c =
    let m = c.self.inside.map in
    let below : c.args.number < len m = omega (arith, c.requires, items_length m c.self.invariant, ap length c.self.view_is) in
    set_by_number m c.set.new.self c.args.number c.args.value c.set.result c.self.invariant below c.set.ensures.ok c.set.ensures.err

pub returns-clause-ok : goal.returns-clause-ok
returns-clause-ok g c =
    let m = c.self.inside.map in
    let below : c.args.number < len m = omega (arith, c.requires, items_length m c.self.invariant, ap length c.self.view_is) in
    set_listed m c.set.new.self c.args.number c.args.value c.args.self.now c.set.result c.self.invariant below c.self.view_is c.set.ensures.ok

pub returns-clause-err : goal.returns-clause-err
returns-clause-err g c = kept_listed c.self.inside.map c.set.new.self c.args.self.now c.set.result c.self.view_is c.set.ensures.err
