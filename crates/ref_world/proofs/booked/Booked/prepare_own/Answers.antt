use Rattle.std.proofs.Common.{◌∙◌, ap, sym}
use Rattle.ref_world.specs.History.{refs_in, upto}
use Rattle.ref_world.proofs.Cut.{cut_changed, is_own, ok_where, unmoved, upto_begins, began_at}
use Rattle.ref_world.proofs.booked.Booked.prepare_own.Goals as goal

pub prepare_own-requires : goal.prepare_own-requires
prepare_own-requires g c =
    let b = c.args.self.now in
    is_own g.M.Meaning.means c.args.front.now b.history b.world.base b.world.log b.world.refs b.world.atoms c.args.tx.now b.cut c.holds.ensures.replayed c.holds.ensures.lasts
    c.bounds.ensures.begins c.requires.began c.requires.point

pub returns-clause-unchanged : goal.returns-clause-unchanged
returns-clause-unchanged g c =
    let b = c.args.self.now in
    unmoved c.prepare_own.result g.M.Meaning.means g.M.Meaning.accepts (g.F.Functions.knows c.args.funs.now) b.world b.history c.args.tx.now c.prepare_own.ensures.refused
    (λ k. cut_changed g.M.Meaning.means b.history b.world.base b.world.log b.cut k ∙ sym (c.holds.ensures.lasts k)) (c.ref_count.ensures.lasts ∙ c.ref_count.ensures.value)

pub returns-clause-began : goal.returns-clause-began
returns-clause-began g c =
    let b = c.args.self.now in
    let at = upto_begins c.args.front.now b.history c.args.tx.now.read_point c.bounds.ensures.begins c.requires.point in
    ok_where c.prepare_own.result (began_at g.M.Meaning.means c.args.tx.now (upto b.history c.args.tx.now.read_point) (c.requires.began ∙ ap (refs_in g.M.Meaning.means) (sym at)))
