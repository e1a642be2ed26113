use Rattle.std.proofs.Common.{◌∙◌, ap, sym}
use Rattle.std.specs.Result.{is_ok}
use Rattle.ref_world.proofs.Cut.{cut_changed, cut_state}
use Rattle.ref_world.proofs.booked.Booked.bounds.Goals as goal

pub returns-clause-legal : goal.returns-clause-legal
returns-clause-legal g c =
    let b = c.args.self.now in
    ap is_ok (cut_state g.M.Meaning.means b.history b.world.base b.world.log b.cut ∙ c.holds.ensures.replayed)

pub returns-clause-values : goal.returns-clause-values
returns-clause-values g c =
    let b = c.args.self.now in
    cut_state g.M.Meaning.means b.history b.world.base b.world.log b.cut ∙ c.holds.ensures.replayed

pub returns-clause-lasts : goal.returns-clause-lasts
returns-clause-lasts g c = λ r.
    let b = c.args.self.now in
    cut_changed g.M.Meaning.means b.history b.world.base b.world.log b.cut r ∙ sym (c.holds.ensures.lasts r)
