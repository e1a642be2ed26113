use Rattle.refrun.proofs.AuditFaults.{edn_told, unread_told}
use Rattle.refrun.proofs.looking.write_page_of.Goals as goal

pub returns-in_err-value-clause-fault : goal.returns-in_err-value-clause-fault
returns-in_err-value-clause-fault g c = edn_told c.from_residual.result c.args.text.now c.in_err-value.field-0.0 c.from_residual.ensures.1 c.in_err-value.ensures.none c.in_err-value.ensures.fault

pub returns-in_err-dump-clause-fault : goal.returns-in_err-dump-clause-fault
returns-in_err-dump-clause-fault g c = unread_told c.from_residual-in_err-dump.result c.args.text.now _ c.in_err-dump.field-0.0 c.from_residual-in_err-dump.ensures.1 c.in_ok-value.ensures.found c.in_err-dump.ensures.reads.0
