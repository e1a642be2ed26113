use Rattle.std.proofs.Common.{◌≡◌, Ok}
use Rattle.ref_log.specs.Replay.{after_dones, missing, needed_of_dones}
use Rattle.ref_log.proofs.replay.apply_dones.Given as goal

abbrev pub invariant-loop-done : goal.invariant-loop-done
invariant-loop-done g l =
    let means = g.M.Meaning.means in
    let knows = (g.F.Functions.knows l.funs).funs in
    record {
      stepped : after_dones means l.dones l.point l.done-iterator (Ok l.values.items) ≡ after_dones means l.dones l.point l.dones (Ok l.fn.values.items);
      needed : missing knows (needed_of_dones means l.dones l.point l.done-iterator (Ok l.values.items)) ≡ missing knows (needed_of_dones means l.dones l.point l.dones (Ok l.fn.values.items));
    }
