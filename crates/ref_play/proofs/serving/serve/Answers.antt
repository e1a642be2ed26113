use Rattle.std.proofs.Common.{refl}
use Rattle.ref_play.specs.Sims.{SimSeen}
use Rattle.ref_play.proofs.Answering.{of_agents, silent}
use Rattle.ref_play.proofs.serving.serve.Goals as goal

pub returns-in-Begin : goal.returns-in-Begin
returns-in-Begin g c =
    let s : SimSeen = record { world = c.args.booked.now.world; share = c.args.share.now; slots = c.args.actors.now; jobs = c.args.jobs.now } in
    rw c.in-Begin.is (silent g.M.Meaning.means g.M.Meaning.accepts (g.F.Functions.knows c.args.funs.now) s c.args.event.now.actor c.begin.new.actors _ c.begin.result refl (c.begin.ensures s))

pub returns-in-Alter : goal.returns-in-Alter
returns-in-Alter g c =
    let s : SimSeen = record { world = c.args.booked.now.world; share = c.args.share.now; slots = c.args.actors.now; jobs = c.args.jobs.now } in
    rw c.in-Alter.is (silent g.M.Meaning.means g.M.Meaning.accepts (g.F.Functions.knows c.args.funs.now) s c.args.event.now.actor c.alter.new.actors _ c.alter.result refl (c.alter.ensures s))

pub returns-in-Commute : goal.returns-in-Commute
returns-in-Commute g c =
    let s : SimSeen = record { world = c.args.booked.now.world; share = c.args.share.now; slots = c.args.actors.now; jobs = c.args.jobs.now } in
    rw c.in-Commute.is (silent g.M.Meaning.means g.M.Meaning.accepts (g.F.Functions.knows c.args.funs.now) s c.args.event.now.actor c.commute.new.actors _ c.commute.result refl (c.commute.ensures s))

pub returns-in-SendInTx : goal.returns-in-SendInTx
returns-in-SendInTx g c =
    let s : SimSeen = record { world = c.args.booked.now.world; share = c.args.share.now; slots = c.args.actors.now; jobs = c.args.jobs.now } in
    rw c.in-SendInTx.is (silent g.M.Meaning.means g.M.Meaning.accepts (g.F.Functions.knows c.args.funs.now) s c.args.event.now.actor c.send_in_tx.new.actors _ c.send_in_tx.result refl (c.send_in_tx.ensures s))

pub returns-in-Abort : goal.returns-in-Abort
returns-in-Abort g c =
    let s : SimSeen = record { world = c.args.booked.now.world; share = c.args.share.now; slots = c.args.actors.now; jobs = c.args.jobs.now } in
    rw c.in-Abort.is (silent g.M.Meaning.means g.M.Meaning.accepts (g.F.Functions.knows c.args.funs.now) s c.args.event.now.actor c.abort.new.actors _ c.abort.result refl (c.abort.ensures s))

pub returns-in-RefSet : goal.returns-in-RefSet
returns-in-RefSet g c =
    let s : SimSeen = record { world = c.args.booked.now.world; share = c.args.share.now; slots = c.args.actors.now; jobs = c.args.jobs.now } in
    rw c.in-RefSet.is (silent g.M.Meaning.means g.M.Meaning.accepts (g.F.Functions.knows c.args.funs.now) s c.args.event.now.actor c.ref_set.new.actors _ c.ref_set.result refl (c.ref_set.ensures s (g.F.Functions.knows c.args.funs.now)))

pub returns-in-Ensure : goal.returns-in-Ensure
returns-in-Ensure g c =
    let s : SimSeen = record { world = c.args.booked.now.world; share = c.args.share.now; slots = c.args.actors.now; jobs = c.args.jobs.now } in
    rw c.in-Ensure.is (silent g.M.Meaning.means g.M.Meaning.accepts (g.F.Functions.knows c.args.funs.now) s c.args.event.now.actor c.ensure.new.actors _ c.ensure.result refl (c.ensure.ensures s (g.F.Functions.knows c.args.funs.now)))

pub returns-in-Deref : goal.returns-in-Deref
returns-in-Deref g c =
    let s : SimSeen = record { world = c.args.booked.now.world; share = c.args.share.now; slots = c.args.actors.now; jobs = c.args.jobs.now } in
    rw c.in-Deref.is (silent g.M.Meaning.means g.M.Meaning.accepts (g.F.Functions.knows c.args.funs.now) s c.args.event.now.actor c.args.actors.now _ c.deref.result refl (c.deref.ensures s))

pub returns-in-Require : goal.returns-in-Require
returns-in-Require g c =
    let s : SimSeen = record { world = c.args.booked.now.world; share = c.args.share.now; slots = c.args.actors.now; jobs = c.args.jobs.now } in
    rw c.in-Require.is (silent g.M.Meaning.means g.M.Meaning.accepts (g.F.Functions.knows c.args.funs.now) s c.args.event.now.actor c.args.actors.now _ c.require.result refl (c.require.ensures s))

pub returns-in-ReadPoint : goal.returns-in-ReadPoint
returns-in-ReadPoint g c =
    let s : SimSeen = record { world = c.args.booked.now.world; share = c.args.share.now; slots = c.args.actors.now; jobs = c.args.jobs.now } in
    rw c.in-ReadPoint.is (silent g.M.Meaning.means g.M.Meaning.accepts (g.F.Functions.knows c.args.funs.now) s c.args.event.now.actor c.args.actors.now _ c.read_point.result refl (c.read_point.ensures s))

pub returns-in-ValueOf : goal.returns-in-ValueOf
returns-in-ValueOf g c =
    let s : SimSeen = record { world = c.args.booked.now.world; share = c.args.share.now; slots = c.args.actors.now; jobs = c.args.jobs.now } in
    rw c.in-ValueOf.is (silent g.M.Meaning.means g.M.Meaning.accepts (g.F.Functions.knows c.args.funs.now) s c.args.event.now.actor c.args.actors.now _ c.value_of.result refl (c.value_of.ensures s))

pub returns-in-RuleOf : goal.returns-in-RuleOf
returns-in-RuleOf g c =
    let s : SimSeen = record { world = c.args.booked.now.world; share = c.args.share.now; slots = c.args.actors.now; jobs = c.args.jobs.now } in
    rw c.in-RuleOf.is (silent g.M.Meaning.means g.M.Meaning.accepts (g.F.Functions.knows c.args.funs.now) s c.args.event.now.actor c.args.actors.now _ c.rule_of.result refl (c.rule_of.ensures s))

pub returns-in-ErrorOf : goal.returns-in-ErrorOf
returns-in-ErrorOf g c =
    let s : SimSeen = record { world = c.args.booked.now.world; share = c.args.share.now; slots = c.args.actors.now; jobs = c.args.jobs.now } in
    rw c.in-ErrorOf.is (silent g.M.Meaning.means g.M.Meaning.accepts (g.F.Functions.knows c.args.funs.now) s c.args.event.now.actor c.args.actors.now _ c.error_of.result refl (c.error_of.ensures s))

pub returns-in-Release : goal.returns-in-Release
returns-in-Release g c =
    let s : SimSeen = record { world = c.args.booked.now.world; share = c.args.share.now; slots = c.args.actors.now; jobs = c.args.jobs.now } in
    rw c.in-Release.is (of_agents g.M.Meaning.means g.M.Meaning.accepts (g.F.Functions.knows c.args.funs.now) s c.args.event.now.actor (record s { world = c.release.new.world }) _ c.release.result refl c.release.ensures.rest (c.release.ensures.acts s))

pub returns-in-ReleaseCarried : goal.returns-in-ReleaseCarried
returns-in-ReleaseCarried g c =
    let s : SimSeen = record { world = c.args.booked.now.world; share = c.args.share.now; slots = c.args.actors.now; jobs = c.args.jobs.now } in
    rw c.in-ReleaseCarried.is (of_agents g.M.Meaning.means g.M.Meaning.accepts (g.F.Functions.knows c.args.funs.now) s c.args.event.now.actor (record s { world = c.release_carried.new.world }) _ c.release_carried.result refl c.release_carried.ensures.rest (c.release_carried.ensures.acts s))

pub returns-in-Send : goal.returns-in-Send
returns-in-Send g c =
    let s : SimSeen = record { world = c.args.booked.now.world; share = c.args.share.now; slots = c.args.actors.now; jobs = c.args.jobs.now } in
    rw c.in-Send.is (of_agents g.M.Meaning.means g.M.Meaning.accepts (g.F.Functions.knows c.args.funs.now) s c.args.event.now.actor (record s { world = c.send.new.world }) _ c.send.result refl c.send.ensures.rest (c.send.ensures.acts s))

pub returns-in-Restart : goal.returns-in-Restart
returns-in-Restart g c =
    let s : SimSeen = record { world = c.args.booked.now.world; share = c.args.share.now; slots = c.args.actors.now; jobs = c.args.jobs.now } in
    rw c.in-Restart.is (of_agents g.M.Meaning.means g.M.Meaning.accepts (g.F.Functions.knows c.args.funs.now) s c.args.event.now.actor (record s { world = c.restart.new.world }) _ c.restart.result refl c.restart.ensures.rest (c.restart.ensures.acts s))

pub returns-in-SetErrorMode : goal.returns-in-SetErrorMode
returns-in-SetErrorMode g c =
    let s : SimSeen = record { world = c.args.booked.now.world; share = c.args.share.now; slots = c.args.actors.now; jobs = c.args.jobs.now } in
    rw c.in-SetErrorMode.is (of_agents g.M.Meaning.means g.M.Meaning.accepts (g.F.Functions.knows c.args.funs.now) s c.args.event.now.actor (record s { world = c.set_error_mode.new.world }) _ c.set_error_mode.result refl c.set_error_mode.ensures.rest (c.set_error_mode.ensures.acts s))

pub returns-in-Fold : goal.returns-in-Fold
returns-in-Fold g c =
    let s : SimSeen = record { world = c.args.booked.now.world; share = c.args.share.now; slots = c.args.actors.now; jobs = c.args.jobs.now } in
    rw c.in-Fold.is (of_agents g.M.Meaning.means g.M.Meaning.accepts (g.F.Functions.knows c.args.funs.now) s c.args.event.now.actor (record s { world = c.fold_agent.new.world }) _ c.fold_agent.result refl c.fold_agent.ensures.rest (c.fold_agent.ensures.acts s))

pub returns-in-MakeAgent : goal.returns-in-MakeAgent
returns-in-MakeAgent g c =
    let s : SimSeen = record { world = c.args.booked.now.world; share = c.args.share.now; slots = c.args.actors.now; jobs = c.args.jobs.now } in
    rw c.in-MakeAgent.is (of_agents g.M.Meaning.means g.M.Meaning.accepts (g.F.Functions.knows c.args.funs.now) s c.args.event.now.actor (record s { world = c.make_agent.new.world }) _ c.make_agent.result refl c.make_agent.ensures.rest (c.make_agent.ensures.acts s))

pub returns-in-Take : goal.returns-in-Take
returns-in-Take g c =
    let s : SimSeen = record { world = c.args.booked.now.world; share = c.args.share.now; slots = c.args.actors.now; jobs = c.args.jobs.now } in
    rw c.in-Take.is (of_agents g.M.Meaning.means g.M.Meaning.accepts (g.F.Functions.knows c.args.funs.now) s c.args.event.now.actor (record s { world = c.take.new.world; jobs = c.take.new.jobs }) _ c.take.result refl c.take.ensures.rest (c.take.ensures.acts s))

pub returns-in-PutBack : goal.returns-in-PutBack
returns-in-PutBack g c =
    let s : SimSeen = record { world = c.args.booked.now.world; share = c.args.share.now; slots = c.args.actors.now; jobs = c.args.jobs.now } in
    rw c.in-PutBack.is (of_agents g.M.Meaning.means g.M.Meaning.accepts (g.F.Functions.knows c.args.funs.now) s c.args.event.now.actor (record s { world = c.put_back.new.world; jobs = c.put_back.new.jobs }) _ c.put_back.result refl c.put_back.ensures.rest (c.put_back.ensures.acts s))

pub returns-in-Finish : goal.returns-in-Finish
returns-in-Finish g c =
    let s : SimSeen = record { world = c.args.booked.now.world; share = c.args.share.now; slots = c.args.actors.now; jobs = c.args.jobs.now } in
    rw c.in-Finish.is (of_agents g.M.Meaning.means g.M.Meaning.accepts (g.F.Functions.knows c.args.funs.now) s c.args.event.now.actor (record s { world = c.finish.new.world; jobs = c.finish.new.jobs }) _ c.finish.result refl c.finish.ensures.rest (c.finish.ensures.acts s))

pub returns-in-Run : goal.returns-in-Run
returns-in-Run g c =
    let s : SimSeen = record { world = c.args.booked.now.world; share = c.args.share.now; slots = c.args.actors.now; jobs = c.args.jobs.now } in
    rw c.in-Run.is (of_agents g.M.Meaning.means g.M.Meaning.accepts (g.F.Functions.knows c.args.funs.now) s c.args.event.now.actor (record s { jobs = c.run.new.jobs }) _ c.run.result refl refl (c.run.ensures s))

pub returns-in-Commit : goal.returns-in-Commit
returns-in-Commit g c =
    let s : SimSeen = record { world = c.args.booked.now.world; share = c.args.share.now; slots = c.args.actors.now; jobs = c.args.jobs.now } in
    rw c.in-Commit.is (c.commit.ensures s)

pub returns-in-Swap : goal.returns-in-Swap
returns-in-Swap g c =
    let s : SimSeen = record { world = c.args.booked.now.world; share = c.args.share.now; slots = c.args.actors.now; jobs = c.args.jobs.now } in
    rw c.in-Swap.is (c.swap.ensures s c.args.event.now.actor)

pub returns-in-Reset : goal.returns-in-Reset
returns-in-Reset g c =
    let s : SimSeen = record { world = c.args.booked.now.world; share = c.args.share.now; slots = c.args.actors.now; jobs = c.args.jobs.now } in
    rw c.in-Reset.is (c.reset.ensures s c.args.event.now.actor)

pub returns-in-CompareAndSet : goal.returns-in-CompareAndSet
returns-in-CompareAndSet g c =
    let s : SimSeen = record { world = c.args.booked.now.world; share = c.args.share.now; slots = c.args.actors.now; jobs = c.args.jobs.now } in
    rw c.in-CompareAndSet.is (c.compare_and_set.ensures s c.args.event.now.actor)

pub returns-in-SetValidator : goal.returns-in-SetValidator
returns-in-SetValidator g c =
    let s : SimSeen = record { world = c.args.booked.now.world; share = c.args.share.now; slots = c.args.actors.now; jobs = c.args.jobs.now } in
    rw c.in-SetValidator.is (c.set_validator.ensures.serves s c.args.event.now.actor)

pub returns-in-MakeRef : goal.returns-in-MakeRef
returns-in-MakeRef g c =
    let s : SimSeen = record { world = c.args.booked.now.world; share = c.args.share.now; slots = c.args.actors.now; jobs = c.args.jobs.now } in
    rw c.in-MakeRef.is (c.make_ref.ensures.serves s c.args.event.now.actor)

pub returns-in-MakeAtom : goal.returns-in-MakeAtom
returns-in-MakeAtom g c =
    let s : SimSeen = record { world = c.args.booked.now.world; share = c.args.share.now; slots = c.args.actors.now; jobs = c.args.jobs.now } in
    rw c.in-MakeAtom.is (c.make_atom.ensures.serves s c.args.event.now.actor)

pub returns-in-Checkpoint : goal.returns-in-Checkpoint
returns-in-Checkpoint g c =
    let s : SimSeen = record { world = c.args.booked.now.world; share = c.args.share.now; slots = c.args.actors.now; jobs = c.args.jobs.now } in
    rw c.in-Checkpoint.is (c.checkpoint.ensures.serves s c.args.event.now.actor)

pub returns-in-AddWatch : goal.returns-in-AddWatch
returns-in-AddWatch g c =
    let s : SimSeen = record { world = c.args.booked.now.world; share = c.args.share.now; slots = c.args.actors.now; jobs = c.args.jobs.now } in
    rw c.in-AddWatch.is (c.add_watch.ensures.serves s (g.F.Functions.knows c.args.funs.now) c.args.event.now.actor)

pub returns-in-RemoveWatch : goal.returns-in-RemoveWatch
returns-in-RemoveWatch g c =
    let s : SimSeen = record { world = c.args.booked.now.world; share = c.args.share.now; slots = c.args.actors.now; jobs = c.args.jobs.now } in
    rw c.in-RemoveWatch.is (c.remove_watch.ensures.serves s (g.F.Functions.knows c.args.funs.now) c.args.event.now.actor)
