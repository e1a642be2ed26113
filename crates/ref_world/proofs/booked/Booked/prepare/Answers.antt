use Rattle.std.proofs.Common.{◌∙◌, sym}
use Rattle.ref_world.proofs.Cut.{began_same, cut_changed, unmoved}
use Rattle.ref_world.proofs.booked.Booked.prepare.Goals as goal

pub returns-clause-unchanged : goal.returns-clause-unchanged
returns-clause-unchanged g c =
    let b = c.args.self.now in
    unmoved c.prepare.result g.M.Meaning.means g.M.Meaning.accepts (g.F.Functions.knows c.args.funs.now) b.world b.history c.args.tx.now c.prepare.ensures.refused
    (λ k. cut_changed g.M.Meaning.means b.history b.world.base b.world.log b.cut k ∙ sym (c.holds.ensures.lasts k)) (c.ref_count.ensures.lasts ∙ c.ref_count.ensures.value)

pub returns-clause-began : goal.returns-clause-began
returns-clause-began g c =
    let b = c.args.self.now in
    began_same c.prepare.result g.M.Meaning.means g.M.Meaning.accepts (g.F.Functions.knows c.args.funs.now) b.world b.history c.args.tx.now c.prepare.ensures.refused b.cut c.holds.ensures.replayed
    c.holds.ensures.lasts (c.ref_count.ensures.lasts ∙ c.ref_count.ensures.value)
