use Rattle.std.proofs.Common.{arith}
use Rattle.std.proofs.lemmas.List.{length_push}
use Rattle.ref_program.proofs.Sums.{have_joined, joined_parts}
use Rattle.ref_program.proofs.running.join_all.Goals as goal

pub loop-one-preserved : goal.loop-one-preserved
loop-one-preserved g c =
    let was = c.loop-one.invariant in
    let step = c.in-Some.ensures.steps in
    let n = length_push c.loop-one.yielded c.in-Some.one in
    let both = c.in_default.ensures.ok in
    let left = rw step.0 at was.rest in
    record {
      count = omega (arith, n, step.1, was.count);
      parts = omega (arith, step.1, was.parts, joined_parts c.loop-one.share c.join.new.self c.in-Some.one.share both, left.0.1);
      rest = rw n left.1;
      done = rw n (have_joined _ _ _ _ _ both c.in_default.ensures.known was.done left.0.0);
    }
