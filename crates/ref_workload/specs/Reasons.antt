-- Which answers of a step's call are refusals, and for which reason; and which reasons a step can have.
use Rattle.std.specs.Prelude.{◌≡◌, Bool, true, false, List, Option, None, Some, Result, Ok, Err}
use Rattle.std.specs.List.{All}
use Rattle.ref_agents.specs.declared.faults.ModeFault.{ModeFault}
use Rattle.ref_agents.specs.declared.faults.ModeFault.TheVariants as modes
use Rattle.ref_agents.specs.declared.faults.RestartFault.{RestartFault}
use Rattle.ref_agents.specs.declared.faults.RestartFault.TheVariants as restarts
use Rattle.ref_agents.specs.declared.faults.SendFault.{SendFault}
use Rattle.ref_agents.specs.declared.faults.SendFault.TheVariants as sends
use Rattle.ref_atoms.specs.declared.faults.AtomFault.{AtomFault}
use Rattle.ref_atoms.specs.declared.faults.AtomFault.TheVariants as atoms
use Rattle.ref_audit.specs.declared.reports.Reason.{Reason}
use Rattle.ref_audit.specs.declared.reports.Reason.TheVariants as reasons
use Rattle.ref_audit.specs.declared.reports.Refusal.{Refusal}
use Rattle.ref_log.specs.declared.faults.RuleFault.{RuleFault}
use Rattle.ref_log.specs.declared.faults.RuleFault.TheVariants as rules
use Rattle.ref_plan.specs.declared.plans.Step.{Step}
use Rattle.ref_plan.specs.declared.plans.Step.TheVariants as steps
use Rattle.ref_refs.specs.declared.faults.CommitFault.{CommitFault}
use Rattle.ref_refs.specs.declared.faults.CommitFault.TheVariants as commits
use Rattle.ref_shared.specs.declared.faults.TransactFault.{TransactFault}
use Rattle.ref_shared.specs.declared.faults.TransactFault.TheVariants as transacts
use Rattle.ref_tx.specs.declared.faults.TxFault.{TxFault}
use Rattle.ref_tx.specs.declared.faults.TxFault.TheVariants as txs
use Rattle.ref_workload.specs.Orderly.{at_stamp}
use Rattle.ref_workload.specs.declared.faults.Stop.{Stop}
use Rattle.ref_workload.specs.declared.faults.Stop.TheVariants as stops

-- ---- from the answer of a call

-- a refusal, or what ends the run
abbrev pub Said : Type 0
Said = Result (Option Reason) Stop

abbrev pub refused : Reason → Said
refused reason = Ok (Some reason)

-- An answered call refuses nothing.
abbrev pub said_of : {T Fault : Type 0} → (Fault → Said) → Result T Fault → Said
said_of fault_said (Ok x) = Ok None
said_of fault_said (Err fault) = fault_said fault

abbrev pub body_said : TxFault → Said
body_said txs.NoSuchRef = Err stops.Internal
body_said txs.SetAfterCommute = refused reasons.SetAfterCommute
body_said txs.TallyOnly = refused reasons.TallyOnly
body_said (txs.Refused cause) = refused (reasons.Refused cause)
body_said (txs.NoSuchFun code) = Err stops.Internal
body_said txs.NoSuchAgent = Err stops.Internal
body_said txs.NotMet = refused reasons.NotMet
body_said txs.Memory = Err stops.Memory

abbrev pub commit_said : CommitFault → Said
commit_said (commits.Foreign alien) = Err stops.Internal
commit_said (commits.Conflict conflict) = Err stops.Internal
commit_said (commits.Refused r cause) = refused (reasons.Refused cause)
commit_said (commits.Invalid r) = refused reasons.Invalid
commit_said commits.PointLimit = refused reasons.PointLimit
commit_said commits.BookFull = refused reasons.BookFull
commit_said commits.Memory = Err stops.Memory
commit_said (commits.NoSuchFun code) = Err stops.Internal

abbrev pub transaction_said : TransactFault TxFault → Said
transaction_said (transacts.GaveUp tries conflict) = refused reasons.GaveUp
transaction_said (transacts.Body fault) = body_said fault
transaction_said (transacts.Commit fault) = commit_said fault
transaction_said transacts.Memory = Err stops.Memory

abbrev pub atom_said : AtomFault → Said
atom_said atoms.NoSuchAtom = Err stops.Internal
atom_said (atoms.NoSuchFun code) = Err stops.Internal
atom_said (atoms.Refused cause) = refused (reasons.Refused cause)
atom_said atoms.Invalid = refused reasons.Invalid
atom_said atoms.PointLimit = refused reasons.PointLimit
atom_said atoms.Memory = Err stops.Memory

abbrev pub send_said : SendFault → Said
send_said sends.NoSuchAgent = Err stops.Internal
send_said sends.Failed = refused reasons.AgentFailed
send_said sends.Memory = Err stops.Memory

abbrev pub restart_said : RestartFault → Said
restart_said restarts.NoSuchAgent = Err stops.Internal
restart_said restarts.NotFailed = refused reasons.NotFailed
restart_said restarts.Invalid = refused reasons.Invalid
restart_said restarts.Memory = Err stops.Memory
restart_said (restarts.NoSuchFun code) = Err stops.Internal

abbrev pub mode_said : ModeFault → Said
mode_said modes.NoSuchAgent = Err stops.Internal

abbrev pub rule_said : RuleFault → Said
rule_said rules.NoSuch = Err stops.Internal
rule_said rules.Invalid = refused reasons.Invalid
rule_said rules.Memory = Err stops.Memory
rule_said (rules.NoSuchFun code) = Err stops.Internal

-- ---- by the step

abbrev pub can_refuse_tx : Reason → Bool
can_refuse_tx reasons.AgentFailed = false
can_refuse_tx reasons.NotFailed = false
can_refuse_tx reason = true

abbrev pub can_refuse_swap : Reason → Bool
can_refuse_swap (reasons.Refused cause) = true
can_refuse_swap reasons.Invalid = true
can_refuse_swap reasons.PointLimit = true
can_refuse_swap reason = false

-- `reset!` and `compare-and-set!`, which call no function
abbrev pub can_refuse_reset : Reason → Bool
can_refuse_reset reasons.Invalid = true
can_refuse_reset reasons.PointLimit = true
can_refuse_reset reason = false

abbrev pub can_refuse_send : Reason → Bool
can_refuse_send reasons.AgentFailed = true
can_refuse_send reason = false

abbrev pub can_refuse_restart : Reason → Bool
can_refuse_restart reasons.NotFailed = true
can_refuse_restart reasons.Invalid = true
can_refuse_restart reason = false

abbrev pub can_refuse_rule : Reason → Bool
can_refuse_rule reasons.Invalid = true
can_refuse_rule reason = false

-- whether a step can be refused for this reason
abbrev pub can_refuse : Step → Reason → Bool
can_refuse (steps.Tx ops) reason = can_refuse_tx reason
can_refuse (steps.Swap a action) reason = can_refuse_swap reason
can_refuse (steps.Reset a value) reason = can_refuse_reset reason
can_refuse (steps.CompareAndSet a old new) reason = can_refuse_reset reason
can_refuse (steps.Send sent) reason = can_refuse_send reason
can_refuse (steps.Restart g state clear) reason = can_refuse_restart reason
can_refuse (steps.Mode g mode) reason = false
can_refuse (steps.Validator who rule) reason = can_refuse_rule reason

-- A refusal is of a step of the plan, for a reason that such a step can have.
abbrev pub HasReason : List (List Step) → Refusal → Type 0
HasReason workers r = (step : Step) × (at_stamp workers r.stamp ≡ Some step) × (can_refuse step r.reason ≡ true)

pub record HaveReasons (workers : List (List Step)) (refusals : List Refusal) : Type 0 where
  pub each : All (HasReason workers) refusals
