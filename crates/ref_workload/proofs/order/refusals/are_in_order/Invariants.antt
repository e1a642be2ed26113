use Rattle.std.proofs.Common.{◌≡◌, drop, None}
use Rattle.ref_workload.specs.Orderly.{rise_after}
use Rattle.ref_workload.proofs.order.refusals.are_in_order.Given as goal

abbrev pub invariant-loop-refusal : goal.invariant-loop-refusal
invariant-loop-refusal l = rise_after l.last (drop l.refusal-index l.refused) ≡ rise_after None l.refused
