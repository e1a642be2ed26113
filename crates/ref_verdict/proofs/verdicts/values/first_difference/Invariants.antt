use Rattle.std.proofs.Common.{◌≡◌, drop}
use Rattle.ref_verdict.specs.Verdict.{first_difference, values_of}
use Rattle.ref_verdict.proofs.verdicts.values.first_difference.Given as goal

abbrev pub invariant-loop-n : goal.invariant-loop-n
invariant-loop-n l = first_difference l.n (values_of (drop l.n l.now)) (drop l.n l.replayed) ≡ first_difference 0 (values_of l.now) l.replayed
