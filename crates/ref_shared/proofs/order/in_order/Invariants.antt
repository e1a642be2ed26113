use Rattle.std.specs.BTreeMap.{get}
use Rattle.std.specs.Ordering.{nat_cmp}
use Rattle.ref_shared.proofs.Turns.{Known}
use Rattle.ref_shared.proofs.order.in_order.Given as goal

abbrev pub invariant-loop-i : goal.invariant-loop-i
invariant-loop-i l = Known l.fn.base_point l.fn.log l.i (get nat_cmp l.latest)
