use Rattle.std.proofs.Common.{◌≡◌, ◌++◌, drop}
use Rattle.std.specs.List.{flat_map}
use Rattle.ref_history.specs.Changes.{change_of}
use Rattle.ref_history.proofs.change_lines.append_befores.Given as goal

-- What is written, and what is left to write, are all of it.
abbrev pub invariant-loop-before : goal.invariant-loop-before
invariant-loop-before l =
    l.out.items ++ flat_map (change_of l.names l.kind l.values) (drop l.before-index l.befores) ≡ l.fn.out.items ++ flat_map (change_of l.names l.kind l.values) l.befores
