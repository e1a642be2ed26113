use Rattle.std.proofs.Common.{drop}
use Rattle.ref_shared.specs.Sinks.{TakesAll}
use Rattle.ref_shared.proofs.gates.tell.Given as goal

abbrev pub invariant-loop-notice : goal.invariant-loop-notice
invariant-loop-notice g l =
    let takes = g.S.WatchSink.takes in
    (last : _) → TakesAll takes l.sink (drop l.notice-index l.notices) last → TakesAll takes l.fn.sink l.notices last
