use Rattle.std.proofs.Common.{◌≡◌, drop}
use Rattle.std.specs.BTreeSet.{keys}
use Rattle.ref_refs.specs.Watches.{touched_from, touched_refs}
use Rattle.ref_refs.proofs.watches.touched_by_all.Given as goal

abbrev pub invariant-loop-done : goal.invariant-loop-done
invariant-loop-done l = touched_from (keys l.refs) (drop l.done-index l.dones) ≡ touched_refs l.dones
