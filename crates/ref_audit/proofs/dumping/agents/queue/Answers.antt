use Rattle.std.proofs.Common.{map, ap, sym}
use Rattle.std.proofs.lemmas.Result.{err_from_is_err_and}
use Rattle.ref_audit.specs.Dumped.{queued_form}
use Rattle.ref_audit.proofs.Left.{fault_of_next, left_at, one_more}
use Rattle.ref_audit.proofs.dumping.agents.queue.Goals as goal

pub returns-in_err-to_value-clause-fault : goal.returns-in_err-to_value-clause-fault
returns-in_err-to_value-clause-fault c =
    let p = err_from_is_err_and c.from_residual-in_err-to_value.result c.from_residual-in_err-to_value.ensures.1 in
    let left = left_at c.args.account.now.queue c.loop-i.i c.in-Some.queued.now (sym c.in-Some.ensures) in
    rw (p.1, p.2) (fault_of_next _ _ _ _ _ _ c.loop-i.invariant (ap (map queued_form) left) c.in_err-to_value.ensures.fault)

pub loop-i-preserved : goal.loop-i-preserved
loop-i-preserved c =
    let left = left_at c.args.account.now.queue c.loop-i.i c.in-Some.queued.now (sym c.in-Some.ensures) in
    one_more _ _ _ _ _ _ _ c.loop-i.invariant (ap (map queued_form) left) c.in_ok-to_value.ensures.made c.in_ok-push.ensures.items
