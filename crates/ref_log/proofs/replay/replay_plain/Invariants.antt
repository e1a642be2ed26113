use Rattle.std.proofs.Common.{◌≡◌, ◌+◌, Ok, length}
use Rattle.ref_log.specs.Replay.{missing, needed, needed_from, point_after, replay, replay_from}
use Rattle.ref_log.proofs.replay.replay_plain.Given as goal

abbrev pub invariant-loop-entry : goal.invariant-loop-entry
invariant-loop-entry g l =
    let means = g.M.Meaning.means in
    let knows = (g.F.Functions.knows l.funs).funs in
    record {
      ends : l.point + length l.entry-iterator ≡ point_after l.base l.entries;
      stepped : replay_from means l.point l.entry-iterator (Ok l.values) ≡ replay means l.base l.entries;
      needed : missing knows (needed_from means l.point l.entry-iterator (Ok l.values)) ≡ missing knows (needed means l.base l.entries);
    }
