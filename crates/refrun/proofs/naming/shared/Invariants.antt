use Rattle.std.proofs.Common.{◌≡◌, take}
use Rattle.refrun.proofs.naming.shared.Given as goal

abbrev pub invariant-loop-text : goal.invariant-loop-text
invariant-loop-text l = l.same.items ≡ take l.text-index l.texts
