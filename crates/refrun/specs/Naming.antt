-- The names of references, by the workload that declares them.
use Rattle.std.specs.Prelude.{◌≡◌, ℕ, List}
use Rattle.ref_value.specs.Edn.{Edn}
use Rattle.ref_edn.specs.Grammar.{IsText}
use Rattle.ref_forms.specs.Names.{NamesSeen}
use Rattle.ref_workload.specs.Plan.{PlanSeen}
use Rattle.ref_workload.specs.Workload.{IsWorkload}

-- The text is a workload, and these are the names of the references that it declares.
pub record AreNamesOf (text : List ℕ) (names : NamesSeen) : Type 0 where
  pub value : Edn
  pub plan : PlanSeen
  pub belongs : IsText text value
  pub lawful : IsWorkload value plan
  pub names_are : names ≡ plan.names
