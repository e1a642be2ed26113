-- Which fault of a run others become.
use Rattle.ref_edn.specs.declared.faults.ReadFault.{ReadFault}
use Rattle.ref_edn.specs.declared.faults.ReadFault.TheVariants as reads
use Rattle.ref_plan.specs.declared.plan_faults.PlanFault.{PlanFault}
use Rattle.ref_plan.specs.declared.plan_faults.PlanFault.TheVariants as plans
use Rattle.ref_workload.specs.declared.faults.RunFault.{RunFault}
use Rattle.ref_workload.specs.declared.faults.RunFault.TheVariants as faults
use Rattle.ref_workload.specs.declared.faults.Stop.{Stop}
use Rattle.ref_workload.specs.declared.faults.Stop.TheVariants as stops

abbrev pub stop_fault_of : Stop → RunFault
stop_fault_of stops.Memory = faults.Memory
stop_fault_of stops.Internal = faults.Internal

-- the fault of a run for a fault of its text
abbrev pub edn_fault_of : ReadFault → RunFault
edn_fault_of reads.Memory = faults.Memory
edn_fault_of fault = faults.NotEdn fault

-- and of its value
abbrev pub plan_fault_of : PlanFault → RunFault
plan_fault_of plans.Memory = faults.Memory
plan_fault_of fault = faults.Plan fault
