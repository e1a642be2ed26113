use Rattle.std.proofs.Common.{◌≡◌}
use Rattle.ref_refs.proofs.watches.in_order.Given as goal

abbrev pub invariant-loop-r : goal.invariant-loop-r
invariant-loop-r l = l.all.items ≡ l.yielded
