use Rattle.std.proofs.Common.{◌≡◌, take}
use Rattle.ref_log.specs.Called.{codes_called}
use Rattle.ref_log.specs.Replay.{missing}
use Rattle.ref_log.proofs.calling.lacking_fun.Given as goal

abbrev pub invariant-loop-entry : goal.invariant-loop-entry
invariant-loop-entry g l =
    let knows = (g.F.Functions.knows l.funs).funs in
    missing knows (codes_called (take l.left l.entry-iterator)) ≡ missing knows (codes_called (take l.fn.count l.entries))
