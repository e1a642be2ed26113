use Rattle.std.proofs.Common.{subst}
use Rattle.ref_workload.specs.Marks.{RefusedStand}
use Rattle.ref_workload.proofs.Marking.{refused_missed, refused_next, refused_none}
use Rattle.ref_workload.proofs.Naming.{take_all}
use Rattle.ref_workload.proofs.order.entries.mark_refused.Goals as goal

pub loop-refusal-init : goal.loop-refusal-init
loop-refusal-init c = λ workers m. refused_none workers _ m

pub loop-refusal-preserved : goal.loop-refusal-preserved
loop-refusal-preserved c = λ workers m.
    refused_next workers c.args.refused.now c.loop-refusal.refusal-index _ c.loop-refusal.board c.take.new.self c.loop-refusal-test.true (c.loop-refusal.invariant workers m) c.if-not-take.ensures

pub returns-clause-yes : goal.returns-clause-yes
returns-clause-yes c = λ workers m done.
    subst (λ xs. RefusedStand workers xs c.loop-refusal.board) (take_all c.loop-refusal.refusal-index c.args.refused.now c.loop-refusal-test.false) (c.loop-refusal.invariant workers m)

pub returns-then-not-take-clause-no : goal.returns-then-not-take-clause-no
returns-then-not-take-clause-no c = λ workers m no steps once.
    refused_missed workers c.args.refused.now c.loop-refusal.refusal-index _ c.loop-refusal.board c.loop-refusal-test.true (c.loop-refusal.invariant workers m) c.if-not-take.ensures.0 steps once
