use Rattle.std.proofs.Common.{◌≡◌, ◌++◌, drop}
use Rattle.ref_output.specs.Pieces.{Remains}
use Rattle.ref_history.specs.Values.{value_lines}
use Rattle.ref_history.proofs.values.write_kind.Given as goal

-- What waits, and what is left to append, remain of all of the lines.
abbrev pub invariant-loop-n : goal.invariant-loop-n
invariant-loop-n g l = record {
  lines : Remains (g.W.Sink.written l.fn.writer) (g.W.Sink.written l.writer) (l.fn.waiting.items ++ value_lines l.kind l.names 0 l.values) (l.waiting.items ++ value_lines l.kind l.names l.n (drop l.n l.values));
  uncounted : g.W.Sink.failures l.writer ≡ g.W.Sink.failures l.fn.writer;
}
