use Rattle.std.proofs.Common.{None, rules, ap, ◌∙◌}
use Rattle.ref_play.specs.Present.{put}
use Rattle.ref_play.specs.Sims.{txs_of}
use Rattle.ref_play.proofs.Slots.{updated}
use Rattle.ref_play.proofs.actors.Actors.take.Goals as goal

pub returns-clause-takes : goal.returns-clause-takes
returns-clause-takes g c = λ is.
    let written = c.get_mut.follows.holds c.take.new.self in
    updated c.self.inside.slots.entries (c.get_mut.follows.lender c.take.new.self).entries c.args.a c.take.new.self ((written.3 (search rules)).0)
    ∙ (ap (put (txs_of c.self.inside.slots.entries) c.args.a) c.take.ensures.after
    ∙ ap (λ s. put (txs_of s) c.args.a None) c.self.view_is)
