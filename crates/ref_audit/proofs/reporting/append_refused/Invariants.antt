use Rattle.std.proofs.Common.{◌≡◌, ◌++◌, drop}
use Rattle.ref_audit.specs.Report.{refused_lines}
use Rattle.ref_audit.proofs.reporting.append_refused.Given as goal

-- What is written, and what is left to write, are all of the lines.
abbrev pub invariant-loop-refusal : goal.invariant-loop-refusal
invariant-loop-refusal l = l.out.items ++ refused_lines (drop l.refusal-index l.refused) ≡ l.fn.out.items ++ refused_lines l.refused
