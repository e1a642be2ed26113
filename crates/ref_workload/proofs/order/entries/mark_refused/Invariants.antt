use Rattle.std.proofs.Common.{[], take}
use Rattle.ref_workload.specs.Marks.{AreMarks, RefusedStand}
use Rattle.ref_workload.proofs.order.entries.mark_refused.Given as goal

abbrev pub invariant-loop-refusal : goal.invariant-loop-refusal
invariant-loop-refusal l = (workers : _) → AreMarks workers [] [] l.fn.board → RefusedStand workers (take l.refusal-index l.refused) l.board
