use Rattle.std.proofs.Common.{◌≡◌, ◌++◌}
use Rattle.ref_player.specs.Lines.{spaced}
use Rattle.ref_player.proofs.lines.append_spaced.Given as goal

-- What is written, and what is left to write, are all of the elements.
abbrev pub invariant-loop-element : goal.invariant-loop-element
invariant-loop-element l = l.out.items ++ spaced l.element-iterator ≡ l.fn.out.items ++ spaced l.elements
