use Rattle.std.proofs.Common.{◌≡◌, Ok, drop}
use Rattle.ref_log.specs.Replay.{after_dones}
use Rattle.ref_history.proofs.steps.apply_dones.Given as goal

abbrev pub invariant-loop-done : goal.invariant-loop-done
invariant-loop-done g l =
    let means = g.M.Meaning.means in
    after_dones means l.dones l.point (drop l.done-index l.dones) (Ok l.values.items) ≡ after_dones means l.dones l.point l.dones (Ok l.fn.values.items)
