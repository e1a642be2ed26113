use Rattle.std.proofs.Common.{take}
use Rattle.ref_refs.specs.Watches.{AreUnguarded, touched_refs}
use Rattle.ref_refs.proofs.watches.are_unguarded.Given as goal

abbrev pub invariant-loop-done : goal.invariant-loop-done
invariant-loop-done l = AreUnguarded l.guards (touched_refs (take l.done-index l.dones))
