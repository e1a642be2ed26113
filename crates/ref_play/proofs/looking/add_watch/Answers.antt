use Rattle.std.proofs.Common.{Err, Ok, subst}
use Rattle.ref_play.specs.Sims.{Serves, SimSeen}
use Rattle.ref_play.specs.declared.events.Act.TheVariants as acts
use Rattle.ref_play.specs.declared.events.Reply.TheVariants as replies
use Rattle.ref_play.proofs.Answering.{watch_added, watch_refused}
use Rattle.ref_play.proofs.looking.add_watch.Goals as goal

pub returns-in-Ok-add_watch-clause-serves : goal.returns-in-Ok-add_watch-clause-serves
returns-in-Ok-add_watch-clause-serves g c = λ s knows actor.
    let means = g.M.Meaning.means in
    let accepts = g.M.Meaning.accepts in
    let did = c.in-Ok-add_watch.ensures in
    let old : SimSeen = record s { world = c.args.world.now } in
    subst (λ x. Serves means accepts knows old actor (acts.AddWatch c.args.who x) (replies.AddWatch (Ok c.in-Ok-add_watch.is_new)) (record s { world = c.add_watch.new.self })) c.in-Ok.ensures
    (watch_added means accepts knows old actor c.args.who c.in-Ok.key c.add_watch.new.self c.in-Ok-add_watch.is_new did.new did.here did.adds)

pub returns-in-Err-clause-serves : goal.returns-in-Err-clause-serves
returns-in-Err-clause-serves g c = λ s knows actor.
    let means = g.M.Meaning.means in
    let accepts = g.M.Meaning.accepts in
    let did = c.in-Err.ensures in
    let old : SimSeen = record s { world = c.args.world.now } in
    subst (λ x. Serves means accepts knows old actor (acts.AddWatch c.args.who x) (replies.AddWatch (Err c.in-Err.fault)) (record s { world = c.add_watch.new.self })) c.in-Ok.ensures
    (watch_refused means accepts knows old actor c.args.who c.in-Ok.key c.add_watch.new.self c.in-Err.fault did.fault.0 did.err)
