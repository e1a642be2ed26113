use Rattle.std.proofs.Common.{◌≡◌, ◌+◌, ◌++◌}
use Rattle.ref_output.specs.Pieces.{Remains}
use Rattle.ref_history.specs.History.{chosen_from, lines_from}
use Rattle.ref_history.specs.Places.{first_place}
use Rattle.ref_history.proofs.entry_lines.write_history.Given as goal

-- What waits, and what is left to append, remain of all of the lines.
abbrev pub invariant-loop-entry : goal.invariant-loop-entry
invariant-loop-entry g l = record {
  lines : Remains (g.W.Sink.written l.fn.writer) (g.W.Sink.written l.writer) (lines_from l.names l.choice (first_place l.dump.base) l.dump.entries) (l.text.items ++ lines_from l.names l.choice l.place l.entry-iterator);
  count : l.chosen + chosen_from l.choice l.place l.entry-iterator ≡ chosen_from l.choice (first_place l.dump.base) l.dump.entries;
  uncounted : g.W.Sink.failures l.writer ≡ g.W.Sink.failures l.fn.writer;
}
