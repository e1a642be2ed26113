use Rattle.std.proofs.Common.{◌≡◌, ◌-◌, drop}
use Rattle.ref_value.specs.Edn.{items_of}
use Rattle.ref_value.specs.Order.{elements_ascend}
use Rattle.ref_value.proofs.sets.do_elements_ascend.Given as goal

abbrev pub invariant-loop-i : goal.invariant-loop-i
invariant-loop-i l = elements_ascend (items_of l.values) ≡ elements_ascend (items_of (drop (l.i - 1) l.values))
