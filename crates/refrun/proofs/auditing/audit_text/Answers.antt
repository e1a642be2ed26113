use Rattle.refrun.proofs.AuditFaults.{read_told}
use Rattle.refrun.proofs.auditing.audit_text.Goals as goal

pub returns-in_err-line-clause-fault : goal.returns-in_err-line-clause-fault
returns-in_err-line-clause-fault g c =
    read_told c.from_residual-in_err-line.result _ _ _ _ _ c.from_residual-in_err-line.ensures.1 c.deref.ensures.value c.in_ok-input.ensures.all c.in_err-line.ensures.fault
