use Rattle.std.proofs.Common.{◌≡◌}
use Rattle.ref_history.specs.Written.{Draws}
use Rattle.ref_history.proofs.drawing.write_table.Given as goal

abbrev pub invariant-loop-r : goal.invariant-loop-r
invariant-loop-r g l = record {
  drawn : Draws (g.W.Sink.written l.fn.writer) (g.W.Sink.written l.writer);
  uncounted : g.W.Sink.failures l.writer ≡ g.W.Sink.failures l.fn.writer;
}
