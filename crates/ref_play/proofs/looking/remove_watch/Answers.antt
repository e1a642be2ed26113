use Rattle.ref_play.specs.Sims.{SimSeen}
use Rattle.ref_play.proofs.Answering.{watch_removed}
use Rattle.ref_play.proofs.looking.remove_watch.Goals as goal

pub returns-clause-serves : goal.returns-clause-serves
returns-clause-serves g c = λ s knows actor.
    let old : SimSeen = record s { world = c.args.world.now } in
    watch_removed g.M.Meaning.means g.M.Meaning.accepts knows old actor c.args.who c.args.key.now c.remove_watch.new.self c.remove_watch.result c.remove_watch.ensures.was c.remove_watch.ensures.removes
