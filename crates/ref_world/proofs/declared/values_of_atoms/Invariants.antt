use Rattle.std.proofs.Common.{◌≡◌, take}
use Rattle.ref_world.proofs.declared.values_of_atoms.Given as goal

abbrev pub invariant-loop-a : goal.invariant-loop-a
invariant-loop-a g l = l.all.items ≡ take l.a l.atoms.values
