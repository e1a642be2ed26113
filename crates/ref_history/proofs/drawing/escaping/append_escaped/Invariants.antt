use Rattle.std.proofs.Common.{◌≡◌, ◌++◌, drop}
use Rattle.std.specs.List.{flat_map}
use Rattle.ref_history.specs.Escaped.{escaped_byte}
use Rattle.ref_history.proofs.drawing.escaping.append_escaped.Given as goal

-- What is written, and what is left to write, are all of it.
abbrev pub invariant-loop-byte : goal.invariant-loop-byte
invariant-loop-byte l = l.out.items ++ flat_map escaped_byte (drop l.byte-index l.text) ≡ l.fn.out.items ++ flat_map escaped_byte l.text
