-- Which fault of a thread of the pool the fault of a job becomes.
use Rattle.ref_agents.specs.declared.faults.JobFault.{JobFault}
use Rattle.ref_agents.specs.declared.faults.JobFault.TheVariants as jobs
use Rattle.ref_shared.specs.declared.faults.WorkFault.{WorkFault}
use Rattle.ref_shared.specs.declared.faults.WorkFault.TheVariants as works

-- the fault that the refusal of a run becomes
abbrev pub work_fault_of : JobFault → WorkFault
work_fault_of (jobs.NoSuchFun code) = works.NoSuchFun code
work_fault_of jobs.Memory = works.Memory
