use Rattle.std.proofs.Common.{◌≡◌, ℕ, take}
use Rattle.std.specs.BTreeSet.{contains}
use Rattle.std.specs.Ordering.{nat_cmp}
use Rattle.ref_log.specs.Replay.{is_protected}
use Rattle.ref_log.proofs.operations.protected_refs.Given as goal

abbrev pub invariant-loop-done : goal.invariant-loop-done
invariant-loop-done l =
    (r : ℕ) → contains nat_cmp l.refs r ≡ is_protected (take l.done-index l.dones) r
