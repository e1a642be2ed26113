use Rattle.std.proofs.Common.{◌<◌, ap, length, slice_index_or, subst, sym, ◌∙◌, arith}
use Rattle.ref_log.specs.Replay.{last_change_from, refs_after}
use Rattle.ref_log.proofs.LastChanges.{changed_step}
use Rattle.ref_log.proofs.lasts.lasts_after.Goals as goal

pub loop-entry-preserved : goal.loop-entry-preserved
loop-entry-preserved c =
    let was = c.loop-entry.invariant in
    let old = c.loop-entry.lasts.items in
    let new = c.mark_changed.new.lasts.items in
    let e = c.in-Some.entry.now in
    let rest = c.next.new.self in
    let first = c.in-Some.ensures.steps in
    let counted = ap length first in
    let count = c.in_ok-mark_changed.ensures.count in
    let refs = ap (λ n. refs_after n rest) count ∙ sym (ap (refs_after (length old)) first) in
    record {
      ends = omega (arith, was.ends, counted);
      count = refs ∙ was.count;
      marks = λ r below. changed_step c.loop-entry.point (length old) e rest r (slice_index_or old r 0) (slice_index_or new r 0) (length new) count below (λ here. c.in_ok-mark_changed.ensures.marks r here)
          ∙ (ap (λ l. last_change_from c.loop-entry.point (length old) l r (slice_index_or old r 0)) (sym first) ∙ was.marks r (subst (λ m. r < m) refs below));
    }
