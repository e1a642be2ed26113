use Rattle.std.proofs.Common.{◌≡◌, drop}
use Rattle.ref_log.specs.Replay.{is_protected}
use Rattle.ref_tx.proofs.tables.protects.Given as goal

abbrev pub invariant-loop-done : goal.invariant-loop-done
invariant-loop-done l = is_protected (drop l.done-index l.dones) l.r ≡ is_protected l.dones l.r
