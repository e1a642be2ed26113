use Rattle.ref_agents.specs.Marks.{AreClear}
use Rattle.ref_agents.proofs.marks.first_of.Given as goal

-- none so far is set
abbrev pub invariant-loop-i : goal.invariant-loop-i
invariant-loop-i l = AreClear l.marks l.from l.i
