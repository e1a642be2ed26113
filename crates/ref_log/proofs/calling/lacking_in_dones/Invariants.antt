use Rattle.std.proofs.Common.{◌≡◌, drop}
use Rattle.ref_log.specs.Called.{codes_of_dones}
use Rattle.ref_log.specs.Replay.{missing}
use Rattle.ref_log.proofs.calling.lacking_in_dones.Given as goal

abbrev pub invariant-loop-done : goal.invariant-loop-done
invariant-loop-done g l =
    let knows = (g.F.Functions.knows l.funs).funs in
    missing knows (codes_of_dones (drop l.done-index l.dones)) ≡ missing knows (codes_of_dones l.dones)
