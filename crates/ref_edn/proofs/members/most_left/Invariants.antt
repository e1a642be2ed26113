use Rattle.std.proofs.Common.{◌≡◌, ◌-◌, drop}
use Rattle.std.specs.Prelude.{max}
use Rattle.ref_edn.specs.Marks.{twin_left}
use Rattle.ref_edn.proofs.members.most_left.Given as goal

abbrev pub invariant-loop-i : goal.invariant-loop-i
invariant-loop-i l = max l.most (twin_left (drop (l.i - 1) l.sorted)) ≡ twin_left l.sorted
