use Rattle.std.proofs.Common.{◌≡◌, take}
use Rattle.ref_world.proofs.declared.values_of_refs.Given as goal

abbrev pub invariant-loop-r : goal.invariant-loop-r
invariant-loop-r g l = l.all.items ≡ take l.r l.refs.values
