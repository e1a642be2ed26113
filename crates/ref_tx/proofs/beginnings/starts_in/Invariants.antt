use Rattle.std.proofs.Common.{◌≡◌, map, take}
use Rattle.ref_tx.specs.Starts.{start_in}
use Rattle.ref_tx.proofs.beginnings.starts_in.Given as goal

abbrev pub invariant-loop-done : goal.invariant-loop-done
invariant-loop-done l = l.starts.items ≡ map (start_in l.began.values) (take l.done-index l.dones)
