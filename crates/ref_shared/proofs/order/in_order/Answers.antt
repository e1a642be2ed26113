use Rattle.std.proofs.Common.{arith, sym}
use Rattle.std.proofs.lemmas.Bool.{OnFalse_at, OnTrue_at}
use Rattle.ref_shared.proofs.Turns.{known_all, known_breaks, known_more, known_still, no_trans_at, other_key, trans_at}
use Rattle.ref_shared.proofs.order.in_order.Goals.{in-Trans+in_ok-follow+else-not-branch, in_default-entry}
use Rattle.ref_shared.proofs.order.in_order.Goals as goal

pub returns-then-not-branch-clause-no : goal.returns-then-not-branch-clause-no
returns-then-not-branch-clause-no c =
    known_breaks _ _ _ _ c.in-Trans.transaction c.loop-i.invariant (trans_at c.args.log.now c.loop-i.i _ _ (sym c.in-Some.ensures) c.in-Trans.is) (OnFalse_at c.if-not-branch.true c.in_ok-follow.ensures.no)

pub loop-i-preserved : goal.loop-i-preserved
loop-i-preserved c = elim c.match-entry.branch [
  | in-Trans+in_ok-follow+else-not-branch w ↦
      let yes = OnTrue_at w.if-not-branch.false w.in_ok-follow.ensures.yes in
      rw w.latest-is (known_more _ _ _ _ _ w.in-Trans.transaction c.loop-i.invariant (trans_at c.args.log.now c.loop-i.i _ _ (sym c.in-Some.ensures) w.in-Trans.is) yes.0 yes.1.1 (λ q n. yes.1.2 q (other_key _ q n)))
  | in_default-entry w ↦ rw w.latest-is (known_still _ _ _ _ c.loop-i.invariant (no_trans_at c.args.log.now c.loop-i.i _ (sym c.in-Some.ensures) w.in_default-entry.not-Trans))
]

pub returns-clause-yes : goal.returns-clause-yes
returns-clause-yes c =
    let len = c.len-i-end.ensures in
    let past = c.loop-i-test.false in
    known_all _ c.args.log.now _ _ c.loop-i.invariant (omega (arith, len, past))
