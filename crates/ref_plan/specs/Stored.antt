-- How the operations of a transaction are stored: one in place, else as a list.
use Rattle.std.specs.Prelude.{List, [], ◌∷◌}
use Rattle.ref_plan.specs.declared.plans.Held.{Held}
use Rattle.ref_plan.specs.declared.plans.Held.TheVariants.{Nothing, One, Listed}
use Rattle.ref_plan.specs.declared.plans.PlannedOp.{PlannedOp}

abbrev pub ops_stored : Held → List PlannedOp
ops_stored Nothing = []
ops_stored (One op) = op ∷ []
ops_stored (Listed ops) = ops.items
