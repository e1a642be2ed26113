use Rattle.std.proofs.Common.{◌≡◌, map, drop, fold}
use Rattle.std.specs.Int.{int_min}
use Rattle.ref_fun.specs.Integers.{int_of}
use Rattle.ref_fun.proofs.integers.least_of.Given as goal

abbrev pub invariant-loop-x : goal.invariant-loop-x
invariant-loop-x l =
    fold int_min l.least (map int_of (drop l.x-index l.args)) ≡ fold int_min l.start (map int_of l.args)
