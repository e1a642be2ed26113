use Rattle.std.proofs.Common.{◌≡◌, length, take}
use Rattle.ref_pmap.proofs.trees.Branch.copied.Given as goal

abbrev pub invariant-loop-i : goal.invariant-loop-i
invariant-loop-i g l = (l.copy.block ≡ l.self.block) × (length l.copy.sides ≡ 16) × (take l.i l.copy.sides ≡ take l.i l.self.sides)
