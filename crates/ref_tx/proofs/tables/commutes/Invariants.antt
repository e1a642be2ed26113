use Rattle.std.proofs.Common.{◌≡◌, drop}
use Rattle.ref_tx.specs.Inner.{is_commuted}
use Rattle.ref_tx.proofs.tables.commutes.Given as goal

abbrev pub invariant-loop-done : goal.invariant-loop-done
invariant-loop-done l = is_commuted (drop l.done-index l.dones) l.r ≡ is_commuted l.dones l.r
