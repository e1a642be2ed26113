use Rattle.std.proofs.Common.{refl, rules}
use Rattle.std.proofs.lemmas.Bool.{OnTrue_at, OnTrue_from}
use Rattle.ref_shared.proofs.Marking.{all_met_at, marks_at, misses_at, skips_at}
use Rattle.ref_shared.proofs.matching.receipts_match.Goals.{then-receipt-base_point+else-not-mark, else-receipt-base_point}
use Rattle.ref_shared.proofs.matching.receipts_match.Goals as goal

pub returns-then-not-mark-clause-no : goal.returns-then-not-mark-clause-no
returns-then-not-mark-clause-no c = misses_at _ _ _ _ _ _ c.loop-receipt.invariant.0 c.loop-receipt-test.true refl c.if-receipt-base_point.true c.if-not-mark.ensures.no

pub loop-receipt-preserved : goal.loop-receipt-preserved
loop-receipt-preserved c = elim c.if-receipt-base_point.branch [
  | then-receipt-base_point+else-not-mark w ↦
      let fits = w.if-not-mark.ensures.yes in
      rw (w.met-is, fits.1) (marks_at _ _ _ _ _ _ c.loop-receipt.invariant.0 c.loop-receipt-test.true refl w.if-receipt-base_point.true c.loop-receipt.invariant.1 fits.0, search rules)
  | else-receipt-base_point w ↦ rw w.met-is (skips_at _ _ _ _ _ _ c.loop-receipt.invariant.0 c.loop-receipt-test.true refl w.if-receipt-base_point.false, c.loop-receipt.invariant.1)
]

pub returns-clause-yes : goal.returns-clause-yes
returns-clause-yes c = OnTrue_from _ _ (λ yes. all_met_at _ _ _ _ _ c.loop-receipt.invariant.0 c.loop-receipt-test.false (OnTrue_at yes (rw c.as_slice.ensures.value at c.all_marked.ensures.yes)))
