use Rattle.std.proofs.Common.{◌≡◌}
use Rattle.ref_history.specs.Written.{Draws}
use Rattle.ref_history.proofs.drawing.boxes.write_entries.Given as goal

abbrev pub invariant-loop-entry : goal.invariant-loop-entry
invariant-loop-entry g l = record {
  drawn : Draws (g.W.Sink.written l.fn.writer) (g.W.Sink.written l.writer);
  uncounted : g.W.Sink.failures l.writer ≡ g.W.Sink.failures l.fn.writer;
}
