use Rattle.std.proofs.Common.{refl}
use Rattle.ref_workload.specs.Reasons.{HasReason}
use Rattle.ref_workload.proofs.EachUpTo.{each_up_to}
use Rattle.ref_workload.proofs.order.refusals.have_reasons.Goals as goal

pub loop-refusal-preserved : goal.loop-refusal-preserved
loop-refusal-preserved c =
    each_up_to (HasReason c.args.workers.now) c.args.refused.now c.loop-refusal.refusal-index _ c.loop-refusal-test.true c.loop-refusal.invariant (c.if-not-has_reason.ensures.0 refl)
