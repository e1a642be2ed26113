-- Which worlds and refused steps a plan may end with.
use Rattle.std.specs.Prelude.{◌≡◌, ℕ, ◌==◌, nat_lt, ◌&&◌, ◌||◌, Bool, true, false, List, [], ◌∷◌, Option, None, Some, length, map, position, slice_get}
use Rattle.std.specs.List.{All, IsDistinct, filter_map, list_any}
use Rattle.ref_audit.specs.declared.reports.Refusal.{Refusal}
use Rattle.ref_log.specs.declared.entries.Entry.{Entry}
use Rattle.ref_log.specs.declared.entries.Entry.TheVariants.{Trans, Atom, MadeRef, MadeAtom}
use Rattle.ref_log.specs.declared.entries.Stamp.{Stamp}
use Rattle.ref_log.specs.declared.entries.Transaction.{Transaction}
use Rattle.ref_log.specs.declared.operations.Done.{Done}
use Rattle.ref_log.specs.declared.operations.Op.{Op}
use Rattle.ref_log.specs.declared.sends.Sent.{Sent}
use Rattle.ref_log.specs.declared.states.Base.{Base}
use Rattle.ref_shared.specs.Gather.{InOrder}
use Rattle.ref_plan.specs.Plan.{PlanSeen}
use Rattle.ref_plan.specs.declared.plans.PlannedOp.{PlannedOp}
use Rattle.ref_plan.specs.declared.plans.PlannedOp.TheVariants.{On, Require, Send}
use Rattle.ref_plan.specs.declared.plans.Step.{Step}
use Rattle.ref_plan.specs.declared.plans.Step.TheVariants.{Tx}
use Rattle.ref_world.specs.Seen.{WorldSeen}
use Rattle.ref_agents.specs.declared.starts.AtomStart.{AtomStart}
use Rattle.ref_agents.specs.declared.starts.RefStart.{RefStart}

-- ---- steps

abbrev pub in_row : {X : Type 0} → Option (List X) → ℕ → Option X
in_row None step = None
in_row (Some row) step = slice_get row step

-- what stands in a list for each worker at this step of this worker, if there is such a step
abbrev pub at_stamp : {X : Type 0} → List (List X) → Stamp → Option X
at_stamp rows stamp = in_row (slice_get rows stamp.worker) stamp.step

abbrev pub is_stamp : Stamp → Stamp → Bool
is_stamp a b = (a.worker == b.worker) && (a.step == b.step)

-- whether two refusals are of one step
abbrev pub is_of_same_step : Refusal → Refusal → Bool
is_of_same_step a b = is_stamp a.stamp b.stamp

abbrev pub is_refused : List Refusal → Stamp → Bool
is_refused refused stamp = list_any (λ r. is_stamp stamp r.stamp) refused

-- whether an entry is the transaction of this step
abbrev pub is_entry_of : Stamp → Entry → Bool
is_entry_of stamp (Trans t) = is_stamp stamp t.stamp
is_entry_of stamp (Atom a op answer) = false
is_entry_of stamp (MadeRef v) = false
is_entry_of stamp (MadeAtom v) = false

abbrev pub has_entry : List Entry → Stamp → Bool
has_entry log stamp = list_any (is_entry_of stamp) log

-- ---- what the text of a transaction names

-- an operation, with the number of its ref; a requirement leaves none in the entry
abbrev pub op_named : PlannedOp → Option (ℕ × Op)
op_named (On r op) = Some (r, op)
op_named (Require r rule) = None
op_named (Send sent) = None

abbrev pub send_named : PlannedOp → Option Sent
send_named (On r op) = None
send_named (Require r rule) = None
send_named (Send sent) = Some sent

-- the operations that were made, without their answers
abbrev pub asked : List Done → List (ℕ × Op)
asked dones = map (λ d. (d.r, d.op)) dones

-- the operations and the sends of a transaction are those that these name, in order
pub record IsNamedBy (ops : List PlannedOp) (t : Transaction) : Type 0 where
  pub dones : asked t.dones ≡ filter_map op_named ops
  pub sends : t.sends ≡ filter_map send_named ops

-- A transaction is that of a step of the plan that isn't refused.
pub record IsOfStep (workers : List (List Step)) (refused : List Refusal) (t : Transaction) : Type 0 where
  pub ops : List PlannedOp
  pub step : at_stamp workers t.stamp ≡ Some (Tx ops)
  pub named : IsNamedBy ops t
  pub stands : is_refused refused t.stamp ≡ false

-- An entry is of a step of the plan, and makes no reference. Which steps changed an atom isn't asked.
abbrev pub IsPlanned : List (List Step) → List Refusal → Entry → Type 0
IsPlanned workers refused (Trans t) = IsOfStep workers refused t
IsPlanned workers refused (Atom a op answer) = Unit {0}
IsPlanned workers refused (MadeRef v) = ⊥
IsPlanned workers refused (MadeAtom v) = ⊥

abbrev pub IsStep : List (List Step) → Refusal → Type 0
IsStep workers r = (step : Step) × (at_stamp workers r.stamp ≡ Some step)

-- ---- the order of refused steps

abbrev pub comes_after : Option Stamp → Stamp → Bool
comes_after None stamp = true
comes_after (Some last) stamp = nat_lt last.worker stamp.worker || ((last.worker == stamp.worker) && nat_lt last.step stamp.step)

abbrev pub rise_after : Option Stamp → List Refusal → Bool
rise_after last [] = true
rise_after last (r ∷ refused) = comes_after last r.stamp && rise_after (Some r.stamp) refused

-- Refused steps stand by worker, then step.
abbrev pub AreInOrder : List Refusal → Type 0
AreInOrder refused = rise_after None refused ≡ true

-- ---- the whole

-- the base that these declare: the values of refs and atoms and the number of the tally, at point 0, with nothing done
abbrev pub base_declared : List RefStart → List AtomStart → Base
base_declared refs atoms = record {
  point = 0;
  refs = map (λ (r : RefStart). r.value) refs;
  last = map (λ (r : RefStart). 0) refs;
  atoms = map (λ (a : AtomStart). a.value) atoms;
  tally = position (λ (r : RefStart). r.tally) refs;
  commits = 0;
  added = 0;
  taken = 0;
}

-- The plan was run, each worker's steps in order, and nothing else was.
pub record IsOrderly (plan : PlanSeen) (world : WorldSeen) (refused : List Refusal) : Type 0 where
  -- The log begins with what is declared, and as many agents were.
  pub base : world.base ≡ base_declared plan.refs plan.atoms
  pub agents : length world.agents.agents ≡ length plan.agents
  -- Each refused step is a step of the plan, and none stands there twice.
  pub steps : All (IsStep plan.workers) refused
  pub once : IsDistinct is_of_same_step refused
  -- Of two transactions of one worker the later in the log has the later step, and was begun when the earlier was there.
  pub order : InOrder world.base.point world.log
  -- Each entry is of a step that isn't refused, with what its text names.
  pub entries : All (IsPlanned plan.workers refused) world.log
  -- Each transaction of the plan is in the log, or refused.
  pub whole : (stamp : Stamp) (ops : List PlannedOp) → at_stamp plan.workers stamp ≡ Some (Tx ops)
      → (is_refused refused stamp || has_entry world.log stamp) ≡ true
