use Rattle.std.proofs.Common.{[], Err, Ok, refl, subst, arith}
use Rattle.std.proofs.lemmas.List.{append-nil}
use Rattle.ref_log.specs.declared.faults.RuleFault.TheVariants as rule_faults
use Rattle.ref_play.specs.Sims.{Serves, SimSeen}
use Rattle.ref_play.specs.declared.events.Act.TheVariants as acts
use Rattle.ref_play.specs.declared.events.Reply.TheVariants as replies
use Rattle.ref_play.proofs.Answering.{rule_refused, rule_set}
use Rattle.ref_play.proofs.looking.set_validator.Goals as goal

pub returns-in-Ok-set_validator-clause-serves : goal.returns-in-Ok-set_validator-clause-serves
returns-in-Ok-set_validator-clause-serves g c = λ s actor.
    let means = g.M.Meaning.means in
    let accepts = g.M.Meaning.accepts in
    let knows = g.F.Functions.knows c.args.funs.now in
    let did = c.in-Ok-set_validator.ensures in
    let old : SimSeen = record s { world = c.args.world.now } in
    subst (λ x. Serves means accepts knows old actor (acts.SetValidator c.args.who x) (replies.SetValidator (Ok tt)) (record s { world = c.set_validator.new.self })) c.in-Ok.ensures.value
    (rule_set means accepts knows old actor c.args.who c.in-Ok.rule c.set_validator.new.self did.refused did.sets)

pub returns-in-Err-clause-serves : goal.returns-in-Err-clause-serves
returns-in-Err-clause-serves g c = λ s actor.
    let means = g.M.Meaning.means in
    let accepts = g.M.Meaning.accepts in
    let knows = g.F.Functions.knows c.args.funs.now in
    let did = c.in-Err.ensures in
    let old : SimSeen = record s { world = c.args.world.now } in
    subst (λ x. Serves means accepts knows old actor (acts.SetValidator c.args.who x) (replies.SetValidator (Err c.in-Err.fault)) (record s { world = c.set_validator.new.self })) c.in-Ok.ensures.value
    (rule_refused means accepts knows old actor c.args.who c.in-Ok.rule c.set_validator.new.self c.in-Err.fault did.refused did.err)

pub returns-in_default-clause-serves : goal.returns-in_default-clause-serves
returns-in_default-clause-serves g c = λ s actor. record {
  added = [];
  went = [];
  acts = (Err rule_faults.Memory, refl, ((λ other. absurd (other refl), λ memory. refl), λ memory. c.in_default.ensures.none), tt, (refl, refl));
  folds = refl;
  logs = record { log = append-nil c.args.world.now.log; point = omega arith; base = refl };
}
