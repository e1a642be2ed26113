use Rattle.std.proofs.Common.{Some, ap, ◌∙◌}
use Rattle.ref_play.specs.Present.{put}
use Rattle.ref_play.specs.Sims.{txs_of}
use Rattle.ref_play.proofs.Slots.{updated}
use Rattle.ref_play.proofs.actors.Actors.open.Goals as goal

pub returns-clause-ok : goal.returns-clause-ok
returns-clause-ok g c =
    updated c.self.inside.slots.entries c.insert.new.self.entries c.args.a (Some c.args.tx) c.in_ok-insert.ensures.updates.0
    ∙ ap (λ s. put (txs_of s) c.args.a (Some c.args.tx)) c.self.view_is
