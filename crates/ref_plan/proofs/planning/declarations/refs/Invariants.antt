use Rattle.ref_plan.proofs.Loops.{RefsSoFar}
use Rattle.ref_plan.proofs.planning.declarations.refs.Given as goal

abbrev pub invariant-loop-i : goal.invariant-loop-i
invariant-loop-i l = RefsSoFar l.judged l.forms l.i l.names.items l.starts.items l.table l.has_tally
