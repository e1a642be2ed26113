use Rattle.std.proofs.Common.{◌≡◌, map, drop, fold}
use Rattle.std.specs.Int.{int_max}
use Rattle.ref_fun.specs.Integers.{int_of}
use Rattle.ref_fun.proofs.integers.greatest_of.Given as goal

abbrev pub invariant-loop-x : goal.invariant-loop-x
invariant-loop-x l =
    fold int_max l.greatest (map int_of (drop l.x-index l.args)) ≡ fold int_max l.start (map int_of l.args)
