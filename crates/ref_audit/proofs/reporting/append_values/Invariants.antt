use Rattle.std.proofs.Common.{◌≡◌, ◌++◌, drop}
use Rattle.ref_world.specs.References.{values_of}
use Rattle.ref_audit.specs.Made.{kind_text, who_of}
use Rattle.ref_audit.specs.Report.{value_lines}
use Rattle.ref_audit.proofs.reporting.append_values.Given as goal

-- What is written, and what is left to write, are all of the lines.
abbrev pub invariant-loop-i : goal.invariant-loop-i
invariant-loop-i l =
    let values = values_of l.world (who_of l.kind 0) in
    l.out.items ++ value_lines (kind_text l.kind) (drop l.i l.names) (drop l.i values) ≡ l.fn.out.items ++ value_lines (kind_text l.kind) l.names values
