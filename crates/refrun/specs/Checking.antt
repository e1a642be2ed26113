-- What the check of a workload writes.
use Rattle.std.specs.Prelude.{◌≡◌, ℕ, List, [], ◌∷◌, ◌++◌, codes}
use Rattle.ref_value.specs.Edn.{Edn}
use Rattle.ref_edn.specs.Grammar.{IsText}
use Rattle.ref_workload.specs.Plan.{PlanSeen}
use Rattle.ref_workload.specs.Workload.{IsWorkload}
use Rattle.ref_workload.specs.declared.faults.RunFault.{RunFault}
use Rattle.ref_workload.specs.declared.faults.RunFault.TheVariants as faults

abbrev pub writes_workload : List ℕ
writes_workload = codes "workload ok" ++ 10 ∷ []

-- The text is a workload, and the output says so.
pub record IsCheckOf (text output : List ℕ) : Type 0 where
  pub value : Edn
  pub plan : PlanSeen
  pub belongs : IsText text value
  pub lawful : IsWorkload value plan
  pub output_is : output ≡ writes_workload

-- Nothing is run, so nothing goes wrong inside.
abbrev pub IsOfChecking : RunFault → Type 0
IsOfChecking faults.Internal = ⊥
IsOfChecking fault = Unit {0}
