use Rattle.std.proofs.Common.{take}
use Rattle.ref_refs.specs.Commit.{changed_after}
use Rattle.ref_refs.proofs.Smallest.{IsFirst, protecting}
use Rattle.ref_refs.proofs.checking.first_changed.Given as goal

abbrev pub invariant-loop-done : goal.invariant-loop-done
invariant-loop-done g l = IsFirst (changed_after l.refs.lasts l.read_point) (protecting (take l.done-index l.dones)) l.first
