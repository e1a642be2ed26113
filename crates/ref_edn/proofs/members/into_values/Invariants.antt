use Rattle.std.proofs.Common.{◌≡◌}
use Rattle.ref_edn.specs.Marks.{elements_of}
use Rattle.ref_edn.proofs.members.into_values.Given as goal

abbrev pub invariant-loop-x : goal.invariant-loop-x
invariant-loop-x l = l.values.items ≡ elements_of l.yielded
