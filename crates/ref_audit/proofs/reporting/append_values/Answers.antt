use Rattle.ref_audit.specs.Made.{kind_text}
use Rattle.ref_audit.proofs.ReportTurns.{values_end, values_turn}
use Rattle.ref_audit.proofs.reporting.append_values.Goals as goal

pub returns-in-None : goal.returns-in-None
returns-in-None c = values_end c.args.world.now c.args.kind (kind_text c.args.kind) c.args.names.now c.loop-i.i c.in_ok-n.n c.who.result _ _ c.in_ok-n.ensures.ok c.who.ensures c.in-None.ensures.value c.loop-i.invariant

pub loop-i-preserved : goal.loop-i-preserved
loop-i-preserved c =
    values_turn c.args.world.now c.args.kind (kind_text c.args.kind) c.args.names.now c.loop-i.i c.in_ok-n.n c.who.result c.index-names-i.result c.in-Some.value.now _ _ _
    c.loop-i-test.true c.index-names-i.is c.in_ok-n.ensures.ok c.who.ensures c.in-Some.ensures.value c.loop-i.invariant c.in_ok-append_value_line-in-Some.ensures
