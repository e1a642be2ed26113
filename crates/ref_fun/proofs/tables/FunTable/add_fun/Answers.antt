use Rattle.std.proofs.Common.{arith, sym}
use Rattle.ref_fun.specs.Table.{fun_code}
use Rattle.ref_fun.proofs.OwnCodes.{OwnCodes-inserted}
use Rattle.ref_fun.proofs.tables.FunTable.add_fun.Goals as goal

pub returns-then-is_some-clause-fault : goal.returns-then-is_some-clause-fault
returns-then-is_some-clause-fault g c = cc

pub returns-then-len-ge-MOST_FUNCTIONS-clause-fault : goal.returns-then-len-ge-MOST_FUNCTIONS-clause-fault
returns-then-len-ge-MOST_FUNCTIONS-clause-fault g c = (cc, omega (arith, c.args.self.now.funs_limited))

pub invariant_of-self-clause-funs_paired : goal.invariant_of-self-clause-funs_paired
invariant_of-self-clause-funs_paired g c =
    OwnCodes-inserted fun_code c.insert.result _ _ _ _ (sym c.code-code.ensures) c.args.self.now.funs_paired c.insert.ensures.entries c.insert.ensures.err

pub returns-clause-fault : goal.returns-clause-fault
returns-clause-fault g c = (cc, omega arith)
