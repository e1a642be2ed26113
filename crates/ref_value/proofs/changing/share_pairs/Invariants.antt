use Rattle.std.proofs.Common.{◌≡◌, ◌++◌, take}
use Rattle.ref_value.proofs.changing.share_pairs.Given as goal

abbrev pub invariant-loop-key : goal.invariant-loop-key
invariant-loop-key l = l.all.items ≡ l.fn.all.items ++ take l.key-index l.pairs
