-- The marks that the check of an order stores: which steps are refused, and which have an entry.
use Rattle.std.specs.Prelude.{◌≡◌, ◌≢◌, ℕ, Bool, true, false, if◌then◌else◌, List, [], Option, None, Some, slice_get}
use Rattle.std.specs.List.{All, IsDistinct}
use Rattle.ref_audit.specs.declared.reports.Refusal.{Refusal}
use Rattle.ref_log.specs.declared.entries.Entry.{Entry}
use Rattle.ref_log.specs.declared.entries.Entry.TheVariants.{Trans, Atom, MadeRef, MadeAtom}
use Rattle.ref_log.specs.declared.entries.Stamp.{Stamp}
use Rattle.ref_log.specs.declared.entries.Transaction.{Transaction}
use Rattle.ref_workload.specs.Orderly.{IsNamedBy, IsPlanned, IsStep, at_stamp, has_entry, is_of_same_step, is_refused, is_stamp}
use Rattle.ref_workload.specs.declared.order.board.Mark.{Mark}
use Rattle.ref_workload.specs.declared.order.board.Mark.TheVariants.{Open, Refused, Committed}
use Rattle.ref_plan.specs.declared.plans.PlannedOp.{PlannedOp}
use Rattle.ref_plan.specs.declared.plans.Step.{Step}
use Rattle.ref_plan.specs.declared.plans.Step.TheVariants.{Tx, Swap, Reset, CompareAndSet, Send, Restart, Mode, Validator}

-- the mark of a step that is there, by whether it is refused and whether it has an entry
abbrev pub mark_of : Option Step → Bool → Bool → Option Mark
mark_of None refused done = None
mark_of (Some step) true done = Some Refused
mark_of (Some step) false true = Some Committed
mark_of (Some step) false false = Some Open

-- Each step has its mark, after these refusals and entries.
abbrev pub AreMarks : List (List Step) → List Refusal → List Entry → List (List Mark) → Type 0
AreMarks workers refused log board = (s : Stamp) → at_stamp board s ≡ mark_of (at_stamp workers s) (is_refused refused s) (has_entry log s)

-- An open step was marked, and no other.
pub record Takes (old : List (List Mark)) (s : Stamp) (mark : Mark) (new : List (List Mark)) : Type 0 where
  pub free : at_stamp old s ≡ Some Open
  pub after : (t : Stamp) → at_stamp new t ≡ (if is_stamp t s then Some mark else at_stamp old t)

-- The refused steps stand in the plan, each once, and are marked.
pub record RefusedStand (workers : List (List Step)) (refused : List Refusal) (board : List (List Mark)) : Type 0 where
  pub marks : AreMarks workers refused [] board
  pub once : IsDistinct is_of_same_step refused
  pub steps : All (IsStep workers) refused

-- A transaction's step is an open one that names its operations and sends, and was marked.
pub record TransactionTaken (workers : List (List Step)) (old : List (List Mark)) (t : Transaction) (new : List (List Mark)) : Type 0 where
  pub ops : List PlannedOp
  pub step : at_stamp workers t.stamp ≡ Some (Tx ops)
  pub named : IsNamedBy ops t
  pub taken : Takes old t.stamp Committed new

abbrev pub EntryTaken : List (List Step) → List (List Mark) → Entry → List (List Mark) → Type 0
EntryTaken workers old (Trans t) new = TransactionTaken workers old t new
EntryTaken workers old (Atom a op answer) new = new ≡ old
EntryTaken workers old (MadeRef v) new = ⊥
EntryTaken workers old (MadeAtom v) new = ⊥

-- A transaction's step isn't an open one that names its operations and sends.
abbrev pub TransactionMissed : List (List Step) → List (List Mark) → Transaction → Type 0
TransactionMissed workers board t =
    (ops : List PlannedOp) → at_stamp workers t.stamp ≡ Some (Tx ops) → IsNamedBy ops t → at_stamp board t.stamp ≢ Some Open

abbrev pub EntryMissed : List (List Step) → List (List Mark) → Entry → Type 0
EntryMissed workers board (Trans t) = TransactionMissed workers board t
EntryMissed workers board (Atom a op answer) = ⊥
EntryMissed workers board (MadeRef v) = Unit {0}
EntryMissed workers board (MadeAtom v) = Unit {0}

-- The entries are those of the plan's transactions, and are marked.
pub record EntriesStand (workers : List (List Step)) (refused : List Refusal) (log : List Entry) (board : List (List Mark)) : Type 0 where
  pub marks : AreMarks workers refused log board
  pub entries : All (IsPlanned workers refused) log

-- whether a step is a transaction
abbrev pub is_tx : Step → Bool
is_tx (Tx ops) = true
is_tx (Swap a action) = false
is_tx (Reset a v) = false
is_tx (CompareAndSet a old new) = false
is_tx (Send sent) = false
is_tx (Restart g state clear) = false
is_tx (Mode g mode) = false
is_tx (Validator who rule) = false

-- No transaction's step is open.
abbrev pub IsRowDone : List Step → List Mark → Type 0
IsRowDone steps marks = (k : ℕ) (ops : List PlannedOp) → slice_get steps k ≡ Some (Tx ops) → slice_get marks k ≢ Some Open

abbrev pub IsDone : List (List Step) → List (List Mark) → Type 0
IsDone workers board = (s : Stamp) (ops : List PlannedOp) → at_stamp workers s ≡ Some (Tx ops) → at_stamp board s ≢ Some Open
