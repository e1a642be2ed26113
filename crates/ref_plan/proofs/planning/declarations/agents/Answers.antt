use Rattle.std.proofs.Common.{◌<◌, length}
use Rattle.ref_plan.specs.Declarations.{agent_of}
use Rattle.ref_plan.proofs.Collected.{collects_end}
use Rattle.ref_plan.proofs.Loops.{agents_fail, agents_more}
use Rattle.ref_plan.proofs.planning.declarations.agents.Goals as goal

pub returns-in-Err-clause-none : goal.returns-in-Err-clause-none
returns-in-Err-clause-none c =
    let within : c.loop-i.i < length c.args.forms.now = rw (← c.len-i-end.ensures) c.loop-i-test.true in
    λ other. agents_fail _ _ _ _ _ _ _ c.loop-i.invariant _ within c.at.ensures (c.in-Err.ensures.refused (c.plan_fault.ensures other))

pub loop-i-preserved : goal.loop-i-preserved
loop-i-preserved c =
    let within : c.loop-i.i < length c.args.forms.now = rw (← c.len-i-end.ensures) c.loop-i-test.true in
    let more = agents_more _ _ _ _ _ _ _ c.loop-i.invariant _ within c.at.ensures _ _ _ c.in-Ok.ensures.ok c.in-Ok.ensures.adds in
    rw (c.in_ok-push-in-Ok.ensures.items, c.in_ok-push-in-Ok-2.ensures.items) more

pub returns-clause-ok : goal.returns-clause-ok
returns-clause-ok c = collects_end (agent_of c.args.judged) _ _ _ _ c.loop-i.invariant.collects (rw (← c.len-i-end.ensures) c.loop-i-test.false)
