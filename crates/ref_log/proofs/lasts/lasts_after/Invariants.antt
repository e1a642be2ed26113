use Rattle.std.proofs.Common.{◌≡◌, ◌+◌, ◌<◌, ℕ, length, slice_index_or}
use Rattle.ref_log.specs.Replay.{last_change, last_change_from, point_after, refs_after}
use Rattle.ref_log.proofs.lasts.lasts_after.Given as goal

abbrev pub invariant-loop-entry : goal.invariant-loop-entry
invariant-loop-entry l =
    record {
      ends : l.point + length l.entry-iterator ≡ point_after l.base l.entries;
      count : refs_after (length l.lasts.items) l.entry-iterator ≡ refs_after (length l.base.refs) l.entries;
      marks : (r : ℕ) → r < refs_after (length l.lasts.items) l.entry-iterator
          → last_change_from l.point (length l.lasts.items) l.entry-iterator r (slice_index_or l.lasts.items r 0) ≡ last_change l.base l.entries r;
    }
