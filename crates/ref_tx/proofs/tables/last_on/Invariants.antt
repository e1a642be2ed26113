use Rattle.std.proofs.Common.{◌≡◌, option_copied, take}
use Rattle.ref_tx.specs.Own.{last_on}
use Rattle.ref_tx.proofs.tables.last_on.Given as goal

abbrev pub invariant-loop-done : goal.invariant-loop-done
invariant-loop-done l = option_copied l.last ≡ last_on l.r (take l.done-index l.dones)
