-- How a fault is reported: a line on standard error, and a status of the program.
use Rattle.std.specs.Prelude.{ℕ, List, ◌++◌, Option, Some, None, codes, decimal}
use Rattle.ref_edn.specs.Faults.{name_of, place_of}
use Rattle.ref_edn.specs.declared.faults.ReadFault.{ReadFault}
use Rattle.ref_events.specs.declared.faults.ScriptFault.{ScriptFault}
use Rattle.ref_events.specs.declared.faults.ScriptFault.TheVariants as scripts
use Rattle.ref_log.specs.declared.notices.Who.{Who}
use Rattle.ref_log.specs.declared.notices.Who.TheVariants.{Ref, Atom, Agent}
use Rattle.ref_plan.specs.declared.plan_faults.PlanFault.{PlanFault}
use Rattle.ref_plan.specs.declared.plan_faults.PlanFault.TheVariants as plans
use Rattle.ref_verdict.specs.DumpForm.{key_word}
use Rattle.ref_verdict.specs.declared.reading.faults.DumpFault.{DumpFault}
use Rattle.ref_verdict.specs.declared.reading.faults.DumpFault.TheVariants as dumps
use Rattle.ref_workload.specs.declared.faults.RunFault.{RunFault}
use Rattle.ref_workload.specs.declared.faults.RunFault.TheVariants as runs
use Rattle.refrun.specs.declared.faults.AuditRunFault.{AuditRunFault}
use Rattle.refrun.specs.declared.faults.AuditRunFault.TheVariants as audits
use Rattle.refrun.specs.declared.faults.Fault.{Fault}
use Rattle.refrun.specs.declared.faults.Fault.TheVariants.{Run, Audit, Script}

-- The status that the program ends with: 3 where the input is refused, 4 where reading or writing failed, 5 where the audit of a run
-- says no, and 6 for out of memory.
abbrev pub run_status_of : RunFault → ℕ
run_status_of runs.InputTooLong = 3
run_status_of (runs.NotEdn fault) = 3
run_status_of (runs.Plan fault) = 3
run_status_of runs.Read = 4
run_status_of runs.Write = 4
run_status_of runs.Internal = 5
run_status_of runs.Memory = 6

abbrev pub audit_status_of : AuditRunFault → ℕ
audit_status_of audits.InputTooLong = 3
audit_status_of (audits.NotEdn fault) = 3
audit_status_of (audits.Dump fault) = 3
audit_status_of (audits.NoPoint point) = 3
audit_status_of audits.Read = 4
audit_status_of audits.Write = 4
audit_status_of audits.Memory = 6

abbrev pub script_status_of : ScriptFault → ℕ
script_status_of scripts.Memory = 6
script_status_of fault = 3

abbrev pub status_of : Fault → ℕ
status_of (Run fault) = run_status_of fault
status_of (Audit fault) = audit_status_of fault
status_of (Script fault) = script_status_of fault

-- ---- the lines on standard error

-- the name of what is wrong with a text, and where
abbrev pub text_line : List ℕ → Option ℕ → List ℕ
text_line name (Some place) = name ++ codes " at " ++ decimal place
text_line name None = codes "out of memory"

abbrev pub read_line_of : ReadFault → List ℕ
read_line_of fault = text_line (name_of fault) (place_of fault)

-- a reference at fault: the Nth of its kind
abbrev pub reference_line : List ℕ → Who → List ℕ
reference_line name (Ref n) = name ++ codes " ref " ++ decimal n
reference_line name (Atom n) = name ++ codes " atom " ++ decimal n
reference_line name (Agent n) = name ++ codes " agent " ++ decimal n

abbrev pub plan_line_of : PlanFault → List ℕ
plan_line_of plans.NotWorkload = codes "NotWorkload"
plan_line_of plans.BadVersion = codes "BadVersion"
plan_line_of plans.TooMany = codes "TooMany"
plan_line_of (plans.BadReference who) = reference_line (codes "BadReference") who
plan_line_of (plans.NameTwice who) = reference_line (codes "NameTwice") who
plan_line_of (plans.BadTally who) = reference_line (codes "BadTally") who
plan_line_of (plans.StartInvalid who) = reference_line (codes "StartInvalid") who
plan_line_of (plans.BadStep worker step) = codes "BadStep " ++ decimal worker ++ codes " " ++ decimal step
plan_line_of (plans.UnknownName worker step) = codes "UnknownName " ++ decimal worker ++ codes " " ++ decimal step
plan_line_of (plans.UnknownFun worker step) = codes "UnknownFun " ++ decimal worker ++ codes " " ++ decimal step
plan_line_of plans.Memory = codes "out of memory"

abbrev pub run_line_of : RunFault → List ℕ
run_line_of runs.Read = codes "read fault"
run_line_of runs.InputTooLong = codes "InputTooLong"
run_line_of (runs.NotEdn fault) = read_line_of fault
run_line_of (runs.Plan fault) = plan_line_of fault
run_line_of runs.Write = codes "write fault"
run_line_of runs.Memory = codes "out of memory"
run_line_of runs.Internal = codes "internal"

abbrev pub dump_line_of : DumpFault → List ℕ
dump_line_of dumps.NotDump = codes "NotDump"
dump_line_of dumps.BadVersion = codes "BadVersion"
dump_line_of (dumps.BadPart key) = codes "BadPart :" ++ key_word key
dump_line_of (dumps.BadEntry n) = codes "BadEntry " ++ decimal n
dump_line_of dumps.Memory = codes "out of memory"

abbrev pub audit_line_of : AuditRunFault → List ℕ
audit_line_of audits.Read = codes "read fault"
audit_line_of audits.InputTooLong = codes "InputTooLong"
audit_line_of (audits.NotEdn fault) = read_line_of fault
audit_line_of (audits.Dump fault) = dump_line_of fault
audit_line_of (audits.NoPoint point) = codes "NoPoint " ++ decimal point
audit_line_of audits.Write = codes "write fault"
audit_line_of audits.Memory = codes "out of memory"

abbrev pub script_line_of : ScriptFault → List ℕ
script_line_of scripts.NotEvents = codes "NotEvents"
script_line_of scripts.BadVersion = codes "BadVersion"
script_line_of scripts.TooMany = codes "TooMany"
script_line_of (scripts.Reference fault) = plan_line_of fault
script_line_of (scripts.BadEvent n) = codes "BadEvent " ++ decimal n
script_line_of (scripts.UnknownName n) = codes "UnknownName " ++ decimal n
script_line_of (scripts.UnknownFun n) = codes "UnknownFun " ++ decimal n
script_line_of scripts.Memory = codes "out of memory"

-- the line of a fault, behind what begins each line of the program
abbrev pub line_of : Fault → List ℕ
line_of (Run fault) = run_line_of fault
line_of (Audit fault) = audit_line_of fault
line_of (Script fault) = script_line_of fault
