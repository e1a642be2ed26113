use Rattle.std.proofs.Common.{◌≡◌, length}
use Rattle.ref_value.specs.Names.{bytes_eq}
use Rattle.ref_forms.proofs.plain.is_same.Given as goal

-- What is left is the same exactly if all is.
abbrev pub invariant-loop-left : goal.invariant-loop-left
invariant-loop-left l = bytes_eq l.left l.right ≡ bytes_eq l.fn.a l.fn.b

abbrev pub decreases-loop-left : goal.decreases-loop-left
decreases-loop-left l = length l.left
