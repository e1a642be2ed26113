use Rattle.ref_fun.specs.Table.{pred_code}
use Rattle.ref_fun.proofs.OwnCodes.{code_of_lent}
use Rattle.ref_fun.proofs.tables.FunTable.pred_at.Goals as goal

pub returns-clause-code : goal.returns-clause-code
returns-clause-code g c = code_of_lent pred_code _ _ _ c.args.self.now.preds_paired c.get.ensures.value
