use Rattle.std.proofs.Common.{◌∙◌, subst}
use Rattle.ref_plan.specs.Tables.{Knows}
use Rattle.ref_plan.proofs.Tables.{told}
use Rattle.ref_plan.proofs.planning.names.Declared.find.Goals as goal

pub returns-clause-named : goal.returns-clause-named
returns-clause-named c =
    let k = subst (Knows c.self.inside.table) c.self.view_is c.self.invariant in
    told c.self.inside.table c.args.self.now k c.args.name.now c.find.result c.find.ensures

pub returns-clause-only : goal.returns-clause-only
returns-clause-only c =
    let k = subst (Knows c.self.inside.table) c.self.view_is c.self.invariant in
    λ who is. c.find.ensures ∙ k.has c.args.name.now who is
