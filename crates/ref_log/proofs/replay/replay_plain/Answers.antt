use Rattle.std.proofs.Common.{ap, length, sym, ◌∙◌, arith}
use Rattle.std.proofs.lemmas.Result.{err_from_is_err_and}
use Rattle.ref_log.proofs.FirstFaults.{log_fails, needed_of_later, replay_of_later}
use Rattle.ref_log.proofs.replay.replay_plain.Goals as goal

pub loop-entry-preserved : goal.loop-entry-preserved
loop-entry-preserved g c =
    let so_far = c.loop-entry.invariant in
    let first = c.in-Some.ensures.steps in
    let ok = c.in_ok-apply.ensures.ok in
    let counted = ap length first in
    record {
      ends = omega (arith, so_far.ends, counted);
      stepped = sym (replay_of_later _ _ _ _ _ _ _ first ok) ∙ so_far.stepped;
      needed = sym (needed_of_later _ _ _ _ _ _ _ _ first ok c.in_ok-apply.ensures.served) ∙ so_far.needed;
    }

pub returns-in_err-apply-clause-err : goal.returns-in_err-apply-clause-err
returns-in_err-apply-clause-err g c =
    let p = err_from_is_err_and c.from_residual-in_err-apply.result c.from_residual-in_err-apply.ensures.1 in
    rw (p.1, p.2) (log_fails _ _ _ _ _ _ _ _ _ _ c.loop-entry.invariant.stepped c.loop-entry.invariant.needed c.in-Some.ensures.steps c.in_err-apply.ensures.err)
