use Rattle.std.proofs.Common.{◌≡◌, ◌++◌, take}
use Rattle.ref_fun.proofs.collections.appended.Given as goal

abbrev pub invariant-loop-x : goal.invariant-loop-x
invariant-loop-x l = l.all ≡ l.items ++ take l.x-index l.args
