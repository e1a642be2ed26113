use Rattle.std.proofs.Common.{◌≡◌, ◌-◌, drop}
use Rattle.ref_value.specs.Edn.{entries_of}
use Rattle.ref_value.specs.Order.{keys_ascend}
use Rattle.ref_value.proofs.maps.do_keys_ascend.Given as goal

abbrev pub invariant-loop-i : goal.invariant-loop-i
invariant-loop-i l = keys_ascend (entries_of l.pairs) ≡ keys_ascend (entries_of (drop (l.i - 1) l.pairs))
