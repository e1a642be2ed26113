use Rattle.std.proofs.Common.{map, ap}
use Rattle.std.proofs.lemmas.Result.{err_from_is_err_and}
use Rattle.ref_audit.specs.Dumped.{entry_form}
use Rattle.ref_audit.proofs.Left.{fault_of_next}
use Rattle.ref_audit.proofs.dumping.forms.vector_of_entries.Goals as goal

pub returns-in_err-to_value-clause-fault : goal.returns-in_err-to_value-clause-fault
returns-in_err-to_value-clause-fault c =
    let p = err_from_is_err_and c.from_residual-in_err-to_value.result c.from_residual-in_err-to_value.ensures.1 in
    rw (p.1, p.2) (fault_of_next _ _ _ _ _ _ c.loop-entry.invariant (ap (map entry_form) c.in-Some.ensures.steps) c.in_err-to_value.ensures.fault)
