use Rattle.std.proofs.Common.{arith, length}
use Rattle.std.proofs.lemmas.List.{length-map, length_push, map-append}
use Rattle.ref_program.proofs.Sums.{left_more, when_ok}
use Rattle.ref_program.proofs.running.join_workers.Goals as goal

pub loop-handle-preserved : goal.loop-handle-preserved
loop-handle-preserved g c =
    let was = c.loop-handle.invariant in
    let step = c.in-Some.ensures.steps in
    let n = length_push c.loop-handle.yielded c.in-Some.handle in
    let next = rw step.0 at was.numbers in
    record {
      rest = omega (arith, n, step.1, was.rest);
      numbers = rw n next.1;
      count = λ ok.
          let both = when_ok _ c.first_fault-ended.ensures ok in
          let kept = when_ok _ c.keep-worked.ensures both.1 in
          let count = was.count both.0 in
          omega (arith, n, count, kept.3);
      left = λ ok.
          let both = when_ok _ c.first_fault-ended.ensures ok in
          let kept = when_ok _ c.keep-worked.ensures both.1 in
          let count = was.count both.0 in
          let done = rw kept.1 at c.join.ensures in
          rw (kept.2, map-append) (left_more _ 0 _ _ kept.0.share (omega (arith, next.0, count, c.loop-handle.left.ok, length-map c.loop-handle.left.items (λ left. left.share))) (was.left both.0) done);
    }
