use Rattle.ref_workload.proofs.TextFaults.{edn_told, plan_told}
use Rattle.refrun.proofs.checking.check.Goals as goal

pub returns-in_err-value-clause-fault : goal.returns-in_err-value-clause-fault
returns-in_err-value-clause-fault c = edn_told c.from_residual.result c.args.text.now c.in_err-value.field-0.0 c.from_residual.ensures.1 c.in_err-value.ensures.none c.in_err-value.ensures.fault

pub returns-in_err-plan-clause-fault : goal.returns-in_err-plan-clause-fault
returns-in_err-plan-clause-fault c = plan_told c.from_residual-in_err-plan.result c.args.text.now _ c.in_err-plan.field-0.0 c.from_residual-in_err-plan.ensures.1 c.in_ok-value.ensures.found c.in_err-plan.ensures.none
