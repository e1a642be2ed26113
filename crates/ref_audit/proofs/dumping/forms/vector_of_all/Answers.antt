use Rattle.std.proofs.Common.{map, ap}
use Rattle.std.proofs.lemmas.Result.{err_from_is_err_and}
use Rattle.ref_audit.proofs.Left.{fault_of_next, left_at, there_at}
use Rattle.ref_audit.proofs.dumping.forms.vector_of_all.Goals as goal

pub returns-in_err-to_value-clause-fault : goal.returns-in_err-to_value-clause-fault
returns-in_err-to_value-clause-fault g c =
    let p = err_from_is_err_and c.from_residual-in_err-to_value.result c.from_residual-in_err-to_value.ensures.1 in
    let here = left_at c.args.items.now c.loop-item.item-index c.item-item.result (there_at c.args.items.now c.loop-item.item-index c.item-item.result c.loop-item-test.true c.item-item.is) in
    rw (p.1, p.2) (fault_of_next _ _ _ _ _ _ c.loop-item.invariant (ap (map g.T.Form.form) here) c.in_err-to_value.ensures.fault)
