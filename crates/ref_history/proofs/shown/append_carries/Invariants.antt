use Rattle.std.proofs.Common.{◌≡◌, ◌++◌, drop}
use Rattle.std.specs.List.{flat_map}
use Rattle.ref_history.specs.Shown.{carry_text}
use Rattle.ref_history.proofs.shown.append_carries.Given as goal

-- What is written, and what is left to write, are all of it.
abbrev pub invariant-loop-carry : goal.invariant-loop-carry
invariant-loop-carry l = l.out.items ++ flat_map (carry_text l.names) (drop l.carry-index l.carries) ≡ l.fn.out.items ++ flat_map (carry_text l.names) l.carries
