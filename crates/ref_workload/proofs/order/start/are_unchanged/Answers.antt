use Rattle.std.proofs.Common.{◌≡◌, length, arith}
use Rattle.ref_workload.proofs.Bases.{zero_at, zeros}
use Rattle.ref_workload.proofs.order.start.are_unchanged.Goals as goal

pub returns-then-lasts-i-ne0-clause-no : goal.returns-then-lasts-i-ne0-clause-no
returns-then-lasts-i-ne0-clause-no c = λ no all. c.if-lasts-i-ne0.true (zero_at c.args.refs.now c.args.lasts.now c.loop-i.i all)

pub returns-clause-yes : goal.returns-clause-yes
returns-clause-yes c = λ all.
    let same : length c.args.refs.now ≡ length c.args.lasts.now = omega arith in
    zeros c.args.refs.now c.args.lasts.now same (λ k below. c.loop-i.invariant k (omega (arith, c.loop-i-test.false, below)))
