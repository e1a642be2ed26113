use Rattle.std.proofs.Common.{refl}
use Rattle.refrun.proofs.AuditFaults.{audit_told, dump_told, edn_told}
use Rattle.refrun.proofs.auditing.audit_of.Goals as goal

pub returns-in_err-value-clause-fault : goal.returns-in_err-value-clause-fault
returns-in_err-value-clause-fault g c = edn_told c.from_residual.result c.args.text.now c.in_err-value.field-0.0 c.from_residual.ensures.1 c.in_err-value.ensures.none c.in_err-value.ensures.fault

pub returns-in_err-verdict-clause-fault : goal.returns-in_err-verdict-clause-fault
returns-in_err-verdict-clause-fault g c = dump_told c.from_residual-in_err-verdict.result c.args.text.now _ c.in_err-verdict.field-0.0 c.from_residual-in_err-verdict.ensures.1 c.in_ok-value.ensures.found c.in_err-verdict.ensures.0

pub returns-in-Ok-clause-ok : goal.returns-in-Ok-clause-ok
returns-in-Ok-clause-ok g c = audit_told c.args.text.now _ _ c.in_ok-verdict.verdict _ refl c.in_ok-verdict.ensures c.in_ok-value.ensures.found c.in-Ok.ensures
