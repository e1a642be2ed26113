use Rattle.std.proofs.Common.{◌≡◌, ◌+◌, drop}
use Rattle.ref_log.specs.Tally.{moved_by_dones}
use Rattle.ref_log.proofs.counting.moved_by_dones.Given as goal

abbrev pub invariant-loop-done : goal.invariant-loop-done
invariant-loop-done l = l.sum + moved_by_dones l.side l.tally (drop l.done-index l.dones) ≡ moved_by_dones l.side l.tally l.dones
