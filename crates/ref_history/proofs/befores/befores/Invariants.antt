use Rattle.std.proofs.Common.{◌≡◌, ℕ, [], ◌++◌, drop, take}
use Rattle.std.specs.BTreeSet.{contains}
use Rattle.std.specs.Ordering.{nat_cmp}
use Rattle.ref_log.specs.Replay.{is_touched}
use Rattle.ref_history.specs.Changes.{befores_from}
use Rattle.ref_history.proofs.befores.befores.Given as goal

abbrev pub invariant-loop-done : goal.invariant-loop-done
invariant-loop-done l = record {
  found : l.befores.items ++ befores_from l.values (take l.done-index l.dones) (drop l.done-index l.dones) ≡ befores_from l.values [] l.dones;
  seen : (r : ℕ) → contains nat_cmp l.touched r ≡ is_touched (take l.done-index l.dones) r;
}
