use Rattle.ref_plan.proofs.Loops.{AgentsSoFar}
use Rattle.ref_plan.proofs.planning.declarations.agents.Given as goal

abbrev pub invariant-loop-i : goal.invariant-loop-i
invariant-loop-i l = AgentsSoFar l.judged l.forms l.i l.names.items l.starts.items l.initial.table l.table
