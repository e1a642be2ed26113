use Rattle.std.proofs.Common.{not, ap, ◌∙◌}
use Rattle.ref_log.specs.Replay.{is_protected}
use Rattle.std.proofs.lemmas.Result.{err_from_is_err_and}
use Rattle.ref_log.proofs.FirstFaults.{entry_fails}
use Rattle.ref_log.proofs.replay.apply_dones.Goals as goal

pub returns-in_err-apply_op-clause-err : goal.returns-in_err-apply_op-clause-err
returns-in_err-apply_op-clause-err g c =
    let p = err_from_is_err_and c.from_residual-in_err-apply_op.result c.from_residual-in_err-apply_op.ensures.1 in
    let protected = c.contains-is_free.ensures ∙ c.in_ok-protected.ensures c.in-Some.done.now.r ∙ ap (λ ds. is_protected ds c.in-Some.done.now.r) c.as_slice.ensures in
    let free = ap not protected in
    rw (p.1, p.2) (entry_fails _ _ _ _ _ _ _ _ _ _ _ _ c.loop-done.invariant.stepped c.loop-done.invariant.needed c.in-Some.ensures.steps free c.in_err-apply_op.ensures.err)
