use Rattle.std.proofs.Common.{◌≡◌, take}
use Rattle.ref_fun.proofs.same.SharedVecSame.is_same.Given as goal

-- So many are the same.
abbrev pub invariant-loop-i : goal.invariant-loop-i
invariant-loop-i g l = take l.i l.fn.self ≡ take l.i l.fn.other
