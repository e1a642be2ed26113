use Rattle.std.proofs.Common.{Err, refl, subst}
use Rattle.ref_log.specs.declared.faults.MakeFault.TheVariants as faults
use Rattle.ref_play.specs.Sims.{Serves, SimSeen}
use Rattle.ref_play.specs.declared.events.Act.TheVariants as acts
use Rattle.ref_play.specs.declared.events.Reply.TheVariants as replies
use Rattle.ref_play.proofs.Answering.{at_once, late_fault, refused_world}
use Rattle.ref_play.proofs.changing.make_atom.Goals as goal

pub returns-in_default : goal.returns-in_default
returns-in_default g c = record {
  serves = λ s actor.
      let means = g.M.Meaning.means in
      let accepts = g.M.Meaning.accepts in
      let knows = g.F.Functions.knows c.args.funs.now in
      refused_world means accepts knows (record s { world = c.args.booked.now.world }) actor c.args.booked.now.world s.share (acts.MakeAtom c.args.value.now c.args.rule.now) (replies.MakeAtom (Err faults.Memory)) refl refl refl
      (Err faults.Memory, refl, at_once faults.Memory _, tt, (refl, refl));
}

pub returns-in_default-share_rule : goal.returns-in_default-share_rule
returns-in_default-share_rule g c = record {
  serves = λ s actor.
      let means = g.M.Meaning.means in
      let accepts = g.M.Meaning.accepts in
      let knows = g.F.Functions.knows c.args.funs.now in
      refused_world means accepts knows (record s { world = c.args.booked.now.world }) actor c.args.booked.now.world s.share (acts.MakeAtom c.args.value.now c.args.rule.now) (replies.MakeAtom (Err faults.Memory)) refl refl refl
      (Err faults.Memory, refl, at_once faults.Memory _, tt, (refl, refl));
}

pub returns-in-Err : goal.returns-in-Err
returns-in-Err g c = record {
  serves = λ s actor.
      let means = g.M.Meaning.means in
      let accepts = g.M.Meaning.accepts in
      let knows = g.F.Functions.knows c.args.funs.now in
      let did = c.in-Err.ensures in
      let old : SimSeen = record s { world = c.args.booked.now.world } in
      let new : SimSeen = record s { world = c.make_atom.new.self.world } in
      subst (λ x. Serves means accepts knows old actor (acts.MakeAtom x c.args.rule.now) (replies.MakeAtom (Err c.in-Err.fault)) new) c.in-Ok.ensures
      (subst (λ x. Serves means accepts knows old actor (acts.MakeAtom c.in-Ok.value x) (replies.MakeAtom (Err c.in-Err.fault)) new) c.in-Ok-share_rule.ensures.value
      (refused_world means accepts knows old actor c.make_atom.new.self.world s.share (acts.MakeAtom c.in-Ok.value c.in-Ok-share_rule.rule) (replies.MakeAtom (Err c.in-Err.fault)) refl did.err.0 refl
      (Err c.in-Err.fault, refl, late_fault faults.Memory _ _ c.in-Err.fault did.refused, tt, (refl, refl))));
}
