use Rattle.std.proofs.Common.{◌≡◌}
use Rattle.ref_edn.specs.Marks.{pairs_of}
use Rattle.ref_edn.proofs.members.into_pairs.Given as goal

abbrev pub invariant-loop-key : goal.invariant-loop-key
invariant-loop-key l = l.pairs.items ≡ pairs_of l.yielded
