use Rattle.std.proofs.Common.{◌≡◌, map, take}
use Rattle.ref_verdict.proofs.reading.values_of.Given as goal

abbrev pub invariant-loop-changed : goal.invariant-loop-changed
invariant-loop-changed l = l.values.items ≡ map (λ c. c.value) (take l.changed-index l.refs)
