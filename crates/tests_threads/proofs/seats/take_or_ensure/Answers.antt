use Rattle.std.proofs.Common.{rules, pos, ◌<ℤ◌, arith}
use Rattle.std.proofs.lemmas.Int.{ints}
use mir.Syntax.{w64}
use mir.Val.{SFits}
use Rattle.tests_threads.proofs.Sales.{takes}
use Rattle.tests_threads.proofs.seats.take_or_ensure.Goals as goal

pub returns-in_ok-alter : goal.returns-in_ok-alter
returns-in_ok-alter g c =
    let adds = c.in_ok-alter.ensures.adds in
    let fits : SFits w64 c.in-Some.free = search rules in
    let test = c.if-free-gt0.true in
    let some : pos 0 <ℤ c.in-Some.free = grind (arith, ints) in
    takes c.args.tx.now c.alter.new.self adds.0 c.in-Some.free c.in_ok-deref.field-0.now c.in_ok-alter.field-0 c.in_ok-deref.ensures.ok c.in-Some.ensures.int some adds.1 adds.2 c.in_ok-alter.ensures.inner
