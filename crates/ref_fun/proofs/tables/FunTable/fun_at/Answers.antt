use Rattle.ref_fun.specs.Table.{fun_code}
use Rattle.ref_fun.proofs.OwnCodes.{code_of_lent}
use Rattle.ref_fun.proofs.tables.FunTable.fun_at.Goals as goal

pub returns-clause-code : goal.returns-clause-code
returns-clause-code g c = code_of_lent fun_code _ _ _ c.args.self.now.funs_paired c.get.ensures.value
