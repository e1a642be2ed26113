use Rattle.std.proofs.Common.{◌≡◌, ◌<◌, ℕ, cond, length, slice_index_or}
use Rattle.ref_log.specs.Replay.{is_touched}
use Rattle.ref_log.proofs.lasts.mark_touched.Given as goal

abbrev pub invariant-loop-done : goal.invariant-loop-done
invariant-loop-done l =
    record {
      count : length l.lasts.items ≡ length l.fn.lasts.items;
      marks : (r : ℕ) → r < length l.fn.lasts.items
          → cond (is_touched l.done-iterator r) l.point (slice_index_or l.lasts.items r 0) ≡ cond (is_touched l.dones r) l.point (slice_index_or l.fn.lasts.items r 0);
    }
