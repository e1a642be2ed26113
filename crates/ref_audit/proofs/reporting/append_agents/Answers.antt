use Rattle.ref_audit.proofs.ReportTurns.{agents_end, agents_turn}
use Rattle.ref_audit.proofs.reporting.append_agents.Goals as goal

pub returns-in-None : goal.returns-in-None
returns-in-None c = agents_end c.args.world.now c.args.names.now c.loop-i.i c.in_ok-g.g _ _ c.in_ok-g.ensures.ok c.in-None.ensures.value c.loop-i.invariant

pub loop-i-preserved : goal.loop-i-preserved
loop-i-preserved c =
    agents_turn c.args.world.now c.args.names.now c.loop-i.i c.in_ok-g.g c.index-names-i.result c.in-Some.state.now _ _ _ _ _
    c.loop-i-test.true c.index-names-i.is c.in_ok-g.ensures.ok c.in-Some.ensures.value c.error_of.ensures c.is_some-failed.ensures c.loop-i.invariant c.in_ok-append_agent_line-in-Some.ensures
