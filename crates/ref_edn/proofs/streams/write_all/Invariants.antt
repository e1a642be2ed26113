use Rattle.std.proofs.Common.{◌≡◌, length}
use Rattle.ref_edn.proofs.Taken.{Wrote}
use Rattle.ref_edn.proofs.streams.write_all.Given as goal

abbrev pub invariant-loop-rest : goal.invariant-loop-rest
invariant-loop-rest g l = record {
  uncounted : g.W.Sink.failures l.sink ≡ g.W.Sink.failures l.fn.sink;
  wrote : Wrote (g.W.Sink.written l.fn.sink) (g.W.Sink.written l.sink) l.bytes l.rest;
}

abbrev pub decreases-loop-rest : goal.decreases-loop-rest
decreases-loop-rest g l = length l.rest
