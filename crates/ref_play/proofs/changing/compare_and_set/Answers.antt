use Rattle.std.proofs.Common.{Err, Ok, refl, subst}
use Rattle.ref_play.specs.Sims.{Serves, SimSeen}
use Rattle.ref_play.specs.declared.events.Act.TheVariants as acts
use Rattle.ref_play.specs.declared.events.Reply.TheVariants as replies
use Rattle.ref_atoms.specs.declared.faults.AtomFault.TheVariants as faults
use Rattle.ref_play.proofs.Answering.{at_once, compare_made, late_fault, refused_world}
use Rattle.ref_play.proofs.changing.compare_and_set.Goals as goal

pub returns-in_default : goal.returns-in_default
returns-in_default g c = λ s actor.
    let means = g.M.Meaning.means in
    let accepts = g.M.Meaning.accepts in
    let knows = g.F.Functions.knows c.args.funs.now in
    refused_world means accepts knows (record s { world = c.args.booked.now.world; share = c.args.share.now }) actor c.args.booked.now.world c.args.share.now (acts.CompareAndSet c.args.n c.args.old.now c.args.new.now) (replies.CompareAndSet (Err faults.Memory)) refl refl refl
    (Err faults.Memory, refl, at_once faults.Memory _, tt, (refl, refl))

pub returns-in-Err : goal.returns-in-Err
returns-in-Err g c = λ s actor.
    let means = g.M.Meaning.means in
    let accepts = g.M.Meaning.accepts in
    let knows = g.F.Functions.knows c.args.funs.now in
    let did = c.in-Err.ensures in
    let old : SimSeen = record s { world = c.args.booked.now.world; share = c.args.share.now } in
    let new : SimSeen = record s { world = c.compare_and_set.new.self.world; share = c.compare_and_set.new.share } in
    subst (λ x. Serves means accepts knows old actor (acts.CompareAndSet c.args.n c.args.old.now x) (replies.CompareAndSet (Err c.in-Err.fault)) new) c.in-Ok.ensures
    (refused_world means accepts knows old actor c.compare_and_set.new.self.world c.compare_and_set.new.share (acts.CompareAndSet c.args.n c.args.old.now c.in-Ok.new) (replies.CompareAndSet (Err c.in-Err.fault)) refl did.err.0 did.same
    (Err c.in-Err.fault, refl, late_fault faults.Memory _ _ c.in-Err.fault did.refused, tt, (refl, refl)))

pub returns-in-Ok-compare_and_set : goal.returns-in-Ok-compare_and_set
returns-in-Ok-compare_and_set g c = λ s actor.
    let means = g.M.Meaning.means in
    let accepts = g.M.Meaning.accepts in
    let knows = g.F.Functions.knows c.args.funs.now in
    let did = c.in-Ok-compare_and_set.ensures in
    let old : SimSeen = record s { world = c.args.booked.now.world; share = c.args.share.now } in
    let new : SimSeen = record s { world = c.compare_and_set.new.self.world; share = c.compare_and_set.new.share } in
    subst (λ x. Serves means accepts knows old actor (acts.CompareAndSet c.args.n c.args.old.now x) (replies.CompareAndSet (Ok c.in-Ok-compare_and_set.compared)) new) c.in-Ok.ensures
    (compare_made means accepts knows old actor c.args.n c.args.old.now c.in-Ok.new c.compare_and_set.new.self.world c.compare_and_set.new.share c.compare_and_set.new.self.history c.in-Ok-compare_and_set.compared did.refused did.done did.entry did.notices did.share (λ is. (did.unset is).0) did.unshared did.untold)
