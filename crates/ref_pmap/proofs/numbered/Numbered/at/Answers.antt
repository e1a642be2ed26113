use Rattle.std.proofs.Common.{length, ap, arith}
use Rattle.ref_pmap.proofs.Listed.{items_length, item_there, item_found}
use Rattle.ref_pmap.proofs.numbered.Numbered.at.Goals as goal

pub overflow_cast-number : goal.overflow_cast-number
overflow_cast-number g c = omega (arith, items_length c.self.inside.map c.self.invariant, ap length c.self.view_is, c.self.invariant.few)

pub unreachable-requires : goal.unreachable-requires
unreachable-requires g c = item_there c.self.inside.map c.args.self.now c.args.number c.self.invariant c.self.view_is c.requires c.in-None.ensures

pub returns : goal.returns
returns g c = item_found c.self.inside.map c.args.self.now c.args.number c.in-Some.value.now c.self.invariant c.self.view_is c.in-Some.ensures
