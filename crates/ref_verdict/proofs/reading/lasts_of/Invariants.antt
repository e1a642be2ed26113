use Rattle.std.proofs.Common.{◌≡◌, map, take}
use Rattle.ref_verdict.proofs.reading.lasts_of.Given as goal

abbrev pub invariant-loop-changed : goal.invariant-loop-changed
invariant-loop-changed l = l.lasts.items ≡ map (λ c. c.last) (take l.changed-index l.refs)
