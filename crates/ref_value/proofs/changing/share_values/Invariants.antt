use Rattle.std.proofs.Common.{◌≡◌, ◌++◌, take}
use Rattle.ref_value.proofs.changing.share_values.Given as goal

abbrev pub invariant-loop-x : goal.invariant-loop-x
invariant-loop-x l = l.all.items ≡ l.fn.all.items ++ take l.x-index l.values
