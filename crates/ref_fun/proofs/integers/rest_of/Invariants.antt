use Rattle.std.proofs.Common.{◌≡◌, ◌-ℤ◌, map, drop}
use Rattle.ref_fun.specs.Integers.{int_of, fold_ints}
use Rattle.ref_fun.proofs.integers.rest_of.Given as goal

abbrev pub invariant-loop-x : goal.invariant-loop-x
invariant-loop-x l =
    fold_ints (λ a b. a -ℤ b) l.rest (map int_of (drop l.x-index l.args)) ≡ fold_ints (λ a b. a -ℤ b) l.start (map int_of l.args)
