use Rattle.std.proofs.Common.{[], ◌∷◌, None, Option}
use Rattle.std.proofs.lemmas.Result.{err_from_is_err_and}
use Rattle.ref_value.specs.Edn.{Edn}
use Rattle.ref_fun.specs.declared.rules.Rule.{Rule}
use Rattle.ref_world.specs.References.{guards_of, values_of}
use Rattle.ref_audit.specs.Dumped.{value_form}
use Rattle.ref_audit.specs.Made.{who_of}
use Rattle.ref_verdict.specs.Words.{rule_form, vector_form}
use Rattle.ref_audit.proofs.Left.{fault_of_next, one_more}
use Rattle.ref_audit.proofs.Numbered.{below_of, numbered_all, value_left, value_there}
use Rattle.ref_audit.proofs.dumping.worlds.values_now.Goals as goal

abbrev value_parts : Edn → Option Rule → Edn
value_parts v rule = vector_form (v ∷ rule_form rule ∷ [])

pub returns-in_err-value_now-in-Some-clause-fault : goal.returns-in_err-value_now-in-Some-clause-fault
returns-in_err-value_now-in-Some-clause-fault c =
    let p = err_from_is_err_and c.from_residual.result c.from_residual.ensures.1 in
    let left = value_left value_parts c.args.world.now c.args.kind c.loop-n.n c.who-who.result c.in-Some.value.now _ c.who-who.ensures c.in-Some.ensures.value c.rule_of.ensures.rule in
    rw (p.1, p.2) (fault_of_next _ _ _ _ _ _ c.loop-n.invariant.left left c.in_err-value_now-in-Some.ensures.fault)

pub returns-in-None-clause-made : goal.returns-in-None-clause-made
returns-in-None-clause-made c =
    let values = values_of c.args.world.now (who_of c.args.kind 0) in
    let none = value_there c.args.world.now c.args.kind c.loop-n.n c.who-who.result None c.who-who.ensures c.in-None.ensures.value in
    let all = numbered_all (value_form (guards_of c.args.world.now (who_of c.args.kind 0))) values c.loop-n.n c.loop-n.forms.items none c.loop-n.invariant.left in
    rw all at c.vector_of.ensures.made

pub returns-in-None-clause-fault : goal.returns-in-None-clause-fault
returns-in-None-clause-fault c =
    let values = values_of c.args.world.now (who_of c.args.kind 0) in
    let none = value_there c.args.world.now c.args.kind c.loop-n.n c.who-who.result None c.who-who.ensures c.in-None.ensures.value in
    let all = numbered_all (value_form (guards_of c.args.world.now (who_of c.args.kind 0))) values c.loop-n.n c.loop-n.forms.items none c.loop-n.invariant.left in
    rw all at c.vector_of.ensures.fault

pub loop-n-preserved : goal.loop-n-preserved
loop-n-preserved c =
    let there = value_there c.args.world.now c.args.kind c.loop-n.n c.who-who.result _ c.who-who.ensures c.in-Some.ensures.value in
    let left = value_left value_parts c.args.world.now c.args.kind c.loop-n.n c.who-who.result c.in-Some.value.now _ c.who-who.ensures c.in-Some.ensures.value c.rule_of.ensures.rule in
    record {
      left = one_more _ _ _ _ _ _ _ c.loop-n.invariant.left left c.in_ok-value_now-in-Some.ensures.made c.in_ok-push-in-Some.ensures.items;
      within = below_of _ _ _ there;
    }
