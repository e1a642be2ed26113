use Rattle.std.proofs.Common.{◌≡◌, ◌-◌, drop}
use Rattle.std.specs.Prelude.{max}
use Rattle.ref_edn.specs.Marks.{keys_of, twin_left}
use Rattle.ref_edn.proofs.members.most_left_of_keys.Given as goal

abbrev pub invariant-loop-i : goal.invariant-loop-i
invariant-loop-i l = max l.most (twin_left (drop (l.i - 1) (keys_of l.sorted))) ≡ twin_left (keys_of l.sorted)
