use Rattle.std.proofs.Common.{Some, ap, ◌∙◌}
use Rattle.ref_play.specs.Present.{put}
use Rattle.ref_play.specs.Sims.{txs_of}
use Rattle.ref_play.proofs.Slots.{updated}
use Rattle.ref_play.proofs.actors.Actors.put.Goals as goal

pub returns : goal.returns
returns g c =
    updated c.self.inside.slots.entries c.insert.new.self.entries c.args.a (Some c.args.tx) c.in-Ok.ensures.updates.0
    ∙ ap (λ s. put (txs_of s) c.args.a (Some c.args.tx)) c.self.view_is
