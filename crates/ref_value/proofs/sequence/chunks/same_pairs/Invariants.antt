use Rattle.std.proofs.Common.{◌≡◌, take}
use Rattle.ref_value.proofs.sequence.chunks.same_pairs.Given as goal

-- So many are the same.
abbrev pub invariant-loop-n : goal.invariant-loop-n
invariant-loop-n l = take l.n l.a ≡ take l.n l.b
