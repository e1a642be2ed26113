use Rattle.std.proofs.Common.{ℕ, ◌<◌, get_or}
use Rattle.ref_workload.specs.Reasons.{HasReason}
use Rattle.ref_workload.proofs.order.refusals.have_reasons.Given as goal

abbrev pub invariant-loop-refusal : goal.invariant-loop-refusal
invariant-loop-refusal l = (k : ℕ) (d : _) → k < l.refusal-index → HasReason l.workers (get_or l.refused k d)
