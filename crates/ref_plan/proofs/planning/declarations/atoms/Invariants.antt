use Rattle.ref_plan.proofs.Loops.{AtomsSoFar}
use Rattle.ref_plan.proofs.planning.declarations.atoms.Given as goal

abbrev pub invariant-loop-i : goal.invariant-loop-i
invariant-loop-i l = AtomsSoFar l.judged l.forms l.i l.names.items l.starts.items l.initial.table l.table
