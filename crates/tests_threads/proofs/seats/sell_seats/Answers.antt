use Rattle.std.proofs.Common.{Bool, subst, arith}
use Rattle.tests_threads.specs.Seats.{HasTried}
use Rattle.tests_threads.proofs.Sales.{missed_more, sold_more}
use Rattle.tests_threads.proofs.seats.sell_seats.Goals as goal
use Rattle.tests_threads.proofs.seats.sell_seats.Goals.{then-branch, else-branch}

pub loop-step-preserved : goal.loop-step-preserved
loop-step-preserved g c =
    let was = c.loop-step.invariant in
    let few = was.few in
    elim c.if-branch.branch [
      | then-branch w ↦
          let tried = subst (λ (sold : Bool). HasTried c.args.worker sold c.loop-step.share c.try_once.new.share) w.if-branch.true c.in_ok-try_once.ensures in
          rw w.sold-is (record {
            so_far = sold_more c.args.worker c.loop-step.step c.loop-step.sold c.args.share.now c.loop-step.share c.try_once.new.share was.so_far tried;
            few = omega arith;
          })
      | else-branch w ↦
          let tried = subst (λ (sold : Bool). HasTried c.args.worker sold c.loop-step.share c.try_once.new.share) w.if-branch.false c.in_ok-try_once.ensures in
          rw w.sold-is (record {
            so_far = missed_more c.args.worker c.loop-step.step c.loop-step.sold c.args.share.now c.loop-step.share c.try_once.new.share was.so_far tried;
            few = omega arith;
          })
    ]
