use Rattle.std.proofs.Common.{◌≡◌, ◌++◌, drop}
use Rattle.ref_output.specs.Pieces.{Remains}
use Rattle.ref_player.specs.Lines.{event_lines}
use Rattle.ref_player.proofs.lines.write_lines.Given as goal

-- What waits, and what is left to append, remain of all of the lines.
abbrev pub invariant-loop-i : goal.invariant-loop-i
invariant-loop-i g l = record {
  lines : Remains (g.W.Sink.written l.fn.writer) (g.W.Sink.written l.writer) (l.fn.waiting.items ++ event_lines 0 l.forms l.replies) (l.waiting.items ++ event_lines l.i (drop l.i l.forms) (drop l.i l.replies));
  uncounted : g.W.Sink.failures l.writer ≡ g.W.Sink.failures l.fn.writer;
}
