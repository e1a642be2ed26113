use Rattle.std.proofs.Common.{◌≡◌, ◌++◌, drop}
use Rattle.ref_output.specs.Pieces.{Remains}
use Rattle.refrun.specs.Printing.{printed_lines}
use Rattle.refrun.proofs.printing.write_lines.Given as goal

-- What waits, and what is left to append, remain of all of the lines.
abbrev pub invariant-loop-value : goal.invariant-loop-value
invariant-loop-value g l = record {
  lines : Remains (g.W.Sink.written l.fn.writer) (g.W.Sink.written l.writer) (printed_lines l.values) (l.lines.items ++ printed_lines (drop l.value-index l.values));
  uncounted : g.W.Sink.failures l.writer ≡ g.W.Sink.failures l.fn.writer;
}
