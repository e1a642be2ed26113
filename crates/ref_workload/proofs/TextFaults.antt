-- What the faults of a text and of its value say.
use Rattle.std.proofs.Common.{◌≡◌, ℕ, List}
use Rattle.std.specs.Prelude.{◌≢◌, Result, Ok, Err, IfErr, IsErrAnd}
use Rattle.ref_value.specs.Edn.{Edn}
use Rattle.ref_edn.specs.Grammar.{IsText}
use Rattle.ref_edn.specs.declared.faults.ReadFault.{ReadFault}
use Rattle.ref_workload.specs.Streams.{IsFaultOfOne}
use Rattle.ref_edn.specs.declared.faults.ReadFault.TheVariants as reads
use Rattle.ref_workload.specs.declared.faults.RunFault.{RunFault}
use Rattle.ref_plan.specs.declared.plan_faults.PlanFault.{PlanFault}
use Rattle.ref_plan.specs.declared.plan_faults.PlanFault.TheVariants as plans
use Rattle.ref_plan.specs.Plan.{PlanSeen}
use Rattle.ref_workload.specs.Run.{IsAtFault}
use Rattle.ref_workload.specs.RunFaults.{edn_fault_of, plan_fault_of}
use Rattle.ref_plan.specs.Workload.{IsWorkload}

not_edn : (text : List ℕ) (f : ReadFault) → (f ≢ reads.Memory → (v : Edn) → IsText text v → ⊥) → IsFaultOfOne text f → IsAtFault text (edn_fault_of f)
not_edn text reads.Memory none is = tt
not_edn text f none is = (λ e. cc, none (λ e. cc), is)

no_plan : (text : List ℕ) (v : Edn) (f : PlanFault) → IsText text v → (f ≢ plans.Memory → (p : PlanSeen) → IsWorkload v p → ⊥) → IsAtFault text (plan_fault_of f)
no_plan text v plans.Memory is none = tt
no_plan text v f is none = (λ e. cc, (v, is, none (λ e. cc)))

-- what a call that hands on such a fault answers
pub edn_told : {T : Type 0} (r : Result T RunFault) (text : List ℕ) (f : ReadFault) → IsErrAnd r (λ g. g ≡ edn_fault_of f) → (f ≢ reads.Memory → (v : Edn) → IsText text v → ⊥) → IsFaultOfOne text f → IfErr r (λ g. IsAtFault text g)
edn_told (Ok x) text f told none is = tt
edn_told (Err g) text f told none is = rw told (not_edn text f none is)

pub plan_told : {T : Type 0} (r : Result T RunFault) (text : List ℕ) (v : Edn) (f : PlanFault) → IsErrAnd r (λ g. g ≡ plan_fault_of f) → IsText text v → (f ≢ plans.Memory → (p : PlanSeen) → IsWorkload v p → ⊥) → IfErr r (λ g. IsAtFault text g)
plan_told (Ok x) text v f told is none = tt
plan_told (Err g) text v f told is none = rw told (no_plan text v f is none)
