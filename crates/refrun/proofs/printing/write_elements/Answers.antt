use Rattle.refrun.proofs.PrintFaults.{elements_told}
use Rattle.refrun.proofs.printing.write_elements.Goals as goal

pub returns-in_err-values-clause-fault : goal.returns-in_err-values-clause-fault
returns-in_err-values-clause-fault g c =
    elements_told c.from_residual.result c.args.text.now c.in_err-values.field-0.0 c.from_residual.ensures.1 c.in_err-values.ensures.none c.in_err-values.ensures.fault
