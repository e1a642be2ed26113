-- Which fault of a list of events a fault of its references is.
use Rattle.ref_plan.specs.declared.plan_faults.PlanFault.{PlanFault}
use Rattle.ref_plan.specs.declared.plan_faults.PlanFault.TheVariants as plans
use Rattle.ref_events.specs.declared.faults.ScriptFault.{ScriptFault}
use Rattle.ref_events.specs.declared.faults.ScriptFault.TheVariants as scripts

abbrev pub reference_fault_of : PlanFault → ScriptFault
reference_fault_of plans.Memory = scripts.Memory
reference_fault_of fault = scripts.Reference fault
