use Rattle.std.proofs.Common.{Some, ap, refl, ◌∙◌}
use Rattle.ref_play.specs.Present.{put}
use Rattle.ref_play.specs.Sims.{txs_of}
use Rattle.ref_play.proofs.Answering.{commit_refused}
use Rattle.ref_play.proofs.changing.commit.Goals as goal

pub returns-in-Err : goal.returns-in-Err
returns-in-Err g c = λ s.
    let did = c.in-Err.ensures in
    commit_refused g.M.Meaning.means g.M.Meaning.accepts (g.F.Functions.knows c.args.funs.now) (record s { world = c.args.booked.now.world; share = c.args.share.now; slots = c.args.actors.now }) c.args.actor c.args.stamp
    c.in-Some.tx c.in-Some.ensures.was c.take.new.self (c.in-Some.ensures.takes refl) c.put.new.self c.commit_with.new.self.world c.commit_with.new.share c.in-Err.fault did.err.0 did.same did.refused
    (c.put.ensures ∙ ap (λ t. put (txs_of c.take.new.self) c.args.actor (Some t)) did.back)
