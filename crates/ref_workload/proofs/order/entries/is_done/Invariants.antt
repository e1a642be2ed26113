use Rattle.std.proofs.Common.{◌≡◌, ℕ, ◌<◌, Some, slice_get}
use Rattle.ref_workload.specs.Marks.{IsRowDone}
use Rattle.ref_workload.proofs.order.entries.is_done.Given as goal

abbrev pub invariant-loop-k : goal.invariant-loop-k
invariant-loop-k l = (i : ℕ) (steps : _) (marks : _) → i < l.k → slice_get l.workers i ≡ Some steps → slice_get l.rows i ≡ Some marks → IsRowDone steps marks
