use Rattle.std.proofs.Common.{◌≡◌, take}
use Rattle.ref_fun.proofs.same.are_same.Given as goal

abbrev pub invariant-loop-i : goal.invariant-loop-i
invariant-loop-i g l = take l.i l.fn.xs ≡ take l.i l.fn.ys
