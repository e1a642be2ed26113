use Rattle.std.proofs.Common.{◌≡◌, ◌≢◌, ℕ, ◌<◌, List, Some, slice_get}
use Rattle.ref_workload.specs.declared.order.board.Mark.TheVariants.{Open}
use Rattle.ref_plan.specs.declared.plans.PlannedOp.{PlannedOp}
use Rattle.ref_plan.specs.declared.plans.Step.TheVariants.{Tx}
use Rattle.ref_workload.proofs.order.entries.is_row_done.Given as goal

abbrev pub invariant-loop-k : goal.invariant-loop-k
invariant-loop-k l = (i : ℕ) (ops : List PlannedOp) → i < l.k → slice_get l.steps i ≡ Some (Tx ops) → slice_get l.marks i ≢ Some Open
