use Rattle.std.proofs.Common.{Err, refl, subst}
use Rattle.ref_play.specs.Sims.{Serves, SimSeen}
use Rattle.ref_play.specs.declared.events.Act.TheVariants as acts
use Rattle.ref_play.specs.declared.events.Reply.TheVariants as replies
use Rattle.ref_atoms.specs.declared.faults.AtomFault.TheVariants as faults
use Rattle.ref_play.proofs.Answering.{at_once, late_fault, refused_world}
use Rattle.ref_play.proofs.changing.swap.Goals as goal

pub returns-in_default : goal.returns-in_default
returns-in_default g c = λ s actor.
    let means = g.M.Meaning.means in
    let accepts = g.M.Meaning.accepts in
    let knows = g.F.Functions.knows c.args.funs.now in
    refused_world means accepts knows (record s { world = c.args.booked.now.world; share = c.args.share.now }) actor c.args.booked.now.world c.args.share.now (acts.Swap c.args.n c.args.code c.args.args.now) (replies.Swap (Err faults.Memory)) refl refl refl
    (Err faults.Memory, refl, at_once faults.Memory _, tt, (refl, refl))

pub returns-in-Err : goal.returns-in-Err
returns-in-Err g c = λ s actor.
    let means = g.M.Meaning.means in
    let accepts = g.M.Meaning.accepts in
    let knows = g.F.Functions.knows c.args.funs.now in
    let did = c.in-Err.ensures in
    let old : SimSeen = record s { world = c.args.booked.now.world; share = c.args.share.now } in
    let new : SimSeen = record s { world = c.swap.new.self.world; share = c.swap.new.share } in
    subst (λ x. Serves means accepts knows old actor (acts.Swap c.args.n c.args.code x) (replies.Swap (Err c.in-Err.fault)) new) c.in-Ok.ensures
    (refused_world means accepts knows old actor c.swap.new.self.world c.swap.new.share (acts.Swap c.args.n c.args.code c.in-Ok.args) (replies.Swap (Err c.in-Err.fault)) refl did.err.0 did.same
    (Err c.in-Err.fault, refl, late_fault faults.Memory _ _ c.in-Err.fault did.refused, tt, (refl, refl)))
