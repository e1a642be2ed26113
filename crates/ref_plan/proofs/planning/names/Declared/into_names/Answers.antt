use Rattle.std.proofs.Common.{subst}
use Rattle.ref_plan.specs.Tables.{Knows}
use Rattle.ref_plan.proofs.Tables.{are_apart}
use Rattle.ref_plan.proofs.planning.names.Declared.into_names.Goals as goal

pub returns-clause-apart : goal.returns-clause-apart
returns-clause-apart c = are_apart c.self.inside.table c.args.self (subst (Knows c.self.inside.table) c.self.view_is c.self.invariant)
