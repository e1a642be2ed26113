-- The replay of a log: its entries are applied in order, and their operations in order, to plain finite maps, that of the
-- refs and that of the atoms. Such a map is the list of the values by number, since numbers begin at 0 and leave no gap.
-- What the functions mean is an argument.
--
-- In each operation it is asked, in this order: whether the reference is there; whether the function gives a value; whether
-- that value is the kept answer, but where a transaction doesn't protect the ref. The first fault ends the replay, and
-- names the point of its entry.
use Rattle.std.specs.Prelude.{ℕ, ◌+◌, Bool, true, false, not, ◌&&◌, ◌||◌, ◌==◌, if◌then◌else◌, Result, Ok, Err, Option, None, Some, List, [], ◌∷◌, ◌++◌, find, length, slice_get, slice_index_or, slice_set, ◌≡◌}
use Rattle.std.specs.List.{list_any}
use Rattle.std.specs.Ordering.{eq_by_cmp}
use Rattle.ref_value.specs.Edn.{Edn}
use Rattle.ref_value.specs.Order.{edn_cmp}
use Rattle.ref_fun.specs.declared.faults.Cause.{Cause}
use Rattle.ref_fun.specs.declared.faults.CallFault.{CallFault}
use Rattle.ref_fun.specs.declared.faults.CallFault.TheVariants as calls
use Rattle.ref_fun.specs.Meaning.{Means}
use Rattle.ref_log.specs.declared.faults.AuditFault.{AuditFault}
use Rattle.ref_log.specs.declared.faults.AuditFault.TheVariants.{Answer, Refuses, NoSuch, Memory, NoSuchFun}
use Rattle.ref_log.specs.declared.operations.Op.{Op}
use Rattle.ref_log.specs.declared.operations.Op.TheVariants.{Set, Alter, Commute, Ensure}
use Rattle.ref_log.specs.declared.operations.Done.{Done}
use Rattle.ref_log.specs.declared.entries.Entry.{Entry}
use Rattle.ref_log.specs.declared.entries.Entry.TheVariants.{Trans, Atom, MadeRef, MadeAtom}
use Rattle.ref_log.specs.declared.states.Base.{Base}
use Rattle.ref_log.specs.declared.states.PlainState.{PlainState}

-- What an operation makes of a value, or the cause for which its function refuses. Clojure's page on refs: `ref-set` sets
-- the ref to a value; `alter` sets it to the function of its value and the arguments; `commute` does so once more at the
-- commit, with the latest value; `ensure` changes nothing.
abbrev pub place : Means → Op → Edn → Result Edn Cause
place means (Set w) v = Ok w
place means (Alter code args) v = means code args v
place means (Commute code args) v = means code args v
place means Ensure v = Ok v

abbrev pub is_set : Op → Bool
is_set (Set w) = true
is_set (Alter code args) = true
is_set (Commute code args) = false
is_set Ensure = false

abbrev pub is_commute : Op → Bool
is_commute (Set w) = false
is_commute (Alter code args) = false
is_commute (Commute code args) = true
is_commute Ensure = false

abbrev pub is_ensure : Op → Bool
is_ensure (Set w) = false
is_ensure (Alter code args) = false
is_ensure (Commute code args) = false
is_ensure Ensure = true

-- An entry of an atom is `reset!` or `swap!`: its operation sets the atom.
abbrev pub sets_atom : Entry → Bool
sets_atom (Trans transaction) = true
sets_atom (Atom a op answer) = is_set op
sets_atom (MadeRef value) = true
sets_atom (MadeAtom value) = true

-- A transaction protects the refs that it set, altered or ensured: nobody else has changed them since its read point.
abbrev pub is_protected : List Done → ℕ → Bool
is_protected ds r = list_any (λ d. d.r == r && not (is_commute d.op)) ds

-- It touches the refs that it set, altered or commuted.
abbrev pub is_touched : List Done → ℕ → Bool
is_touched ds r = list_any (λ d. d.r == r && not (is_ensure d.op)) ds

-- Whether a kept answer is the value that its operation gave.
abbrev pub is_kept : Done → Edn → Bool
is_kept d v = eq_by_cmp edn_cmp v d.answer

-- The values after an operation whose function answered. The answer is free where the transaction doesn't protect the ref.
abbrev pub after_place : Bool → ℕ → Done → List Edn → Result Edn Cause → Result (List Edn) AuditFault
after_place free point d values (Ok v) = if free || is_kept d v then Ok (slice_set values d.r v) else Err (Answer point)
after_place free point d values (Err c) = Err (Refuses point)

-- The values after an operation on what was found under the number of its ref.
abbrev pub after_found : Means → Bool → ℕ → Done → List Edn → Option Edn → Result (List Edn) AuditFault
after_found means free point d values (Some v) = after_place free point d values (place means d.op v)
after_found means free point d values None = Err (NoSuch point)

abbrev pub after_one : Means → Bool → ℕ → Done → List Edn → Result (List Edn) AuditFault
after_one means free point d values = after_found means free point d values (slice_get values d.r)

-- The values after one operation of the entry at a point. The first list has all operations of its transaction.
abbrev pub after_done : Means → List Done → ℕ → Done → List Edn → Result (List Edn) AuditFault
after_done means all point d values = after_one means (not (is_protected all d.r)) point d values

abbrev pub and_done : Means → List Done → ℕ → Done → Result (List Edn) AuditFault → Result (List Edn) AuditFault
and_done means all point d (Ok values) = after_done means all point d values
and_done means all point d (Err fault) = Err fault

-- The values after these operations, one at a time.
abbrev pub after_dones : Means → List Done → ℕ → List Done → Result (List Edn) AuditFault → Result (List Edn) AuditFault
after_dones means all point [] values = values
after_dones means all point (d ∷ ds) values = after_dones means all point ds (and_done means all point d values)

-- ---- entries

-- other refs instead of those of a state, with the same atoms
abbrev pub with_refs : PlainState → Result (List Edn) AuditFault → Result PlainState AuditFault
with_refs state (Ok refs) = Ok (record { refs = refs; atoms = state.atoms })
with_refs state (Err fault) = Err fault

abbrev pub with_atoms : PlainState → Result (List Edn) AuditFault → Result PlainState AuditFault
with_atoms state (Ok atoms) = Ok (record { refs = state.refs; atoms = atoms })
with_atoms state (Err fault) = Err fault

-- What an entry about an atom says, as an operation on the value of that number. Its answer is always compared.
abbrev pub done_of : ℕ → Op → Edn → Done
done_of a op answer = record { r = a; op = op; answer = answer }

-- The values after the entry at a point. A reference that is made gets the next number of its kind.
abbrev pub step : Means → ℕ → Entry → PlainState → Result PlainState AuditFault
step means point (Trans t) state = with_refs state (after_dones means t.dones point t.dones (Ok state.refs))
step means point (Atom a op answer) state = with_atoms state (after_one means false point (done_of a op answer) state.atoms)
step means point (MadeRef v) state = Ok (record { refs = state.refs ++ v ∷ []; atoms = state.atoms })
step means point (MadeAtom v) state = Ok (record { refs = state.refs; atoms = state.atoms ++ v ∷ [] })

abbrev pub and_step : Means → ℕ → Entry → Result PlainState AuditFault → Result PlainState AuditFault
and_step means point e (Ok state) = step means point e state
and_step means point e (Err fault) = Err fault

-- The values after these entries, one at a time, the first of them at the point after this one.
abbrev pub replay_from : Means → ℕ → List Entry → Result PlainState AuditFault → Result PlainState AuditFault
replay_from means point [] state = state
replay_from means point (e ∷ es) state = replay_from means (point + 1) es (and_step means (point + 1) e state)

-- The point of the last of these entries after the base: the k-th entry, from 1 on, has the base's point plus k.
abbrev pub point_after : Base → List Entry → ℕ
point_after base entries = base.point + length entries

-- the values of a base
abbrev pub state_of : Base → PlainState
state_of base = record { refs = base.refs; atoms = base.atoms }

-- The values after these entries on the base, or the first fault.
abbrev pub replay : Means → Base → List Entry → Result PlainState AuditFault
replay means base entries = replay_from means base.point entries (Ok (state_of base))

-- ---- last changes

-- Whether an entry made a ref or touched it, where there are so many refs before it.
abbrev pub is_changed_by : ℕ → Entry → ℕ → Bool
is_changed_by refs (Trans t) r = is_touched t.dones r
is_changed_by refs (Atom a op answer) r = false
is_changed_by refs (MadeRef v) r = refs == r
is_changed_by refs (MadeAtom v) r = false

-- how many refs there are after an entry, and after all of these
abbrev pub refs_after_one : ℕ → Entry → ℕ
refs_after_one refs (Trans t) = refs
refs_after_one refs (Atom a op answer) = refs
refs_after_one refs (MadeRef v) = refs + 1
refs_after_one refs (MadeAtom v) = refs

abbrev pub refs_after : ℕ → List Entry → ℕ
refs_after refs [] = refs
refs_after refs (e ∷ es) = refs_after (refs_after_one refs e) es

-- The point of the last change of a ref after these entries, the first of them at the point after this one, and so many
-- refs before it: that of the last entry which made or touched the ref, and `before` where none did.
abbrev pub last_change_from : ℕ → ℕ → List Entry → ℕ → ℕ → ℕ
last_change_from point refs [] r before = before
last_change_from point refs (e ∷ es) r before = last_change_from (point + 1) (refs_after_one refs e) es r (if is_changed_by refs e r then point + 1 else before)

-- The point of the last change of a ref: the base has it for what came before its entries.
abbrev pub last_change : Base → List Entry → ℕ → ℕ
last_change base entries r = last_change_from base.point (length base.refs) entries r (slice_index_or base.last r 0)

-- ---- the codes that a replay needs

-- the functions that an operation calls, by their codes
abbrev pub codes_of : Op → List ℕ
codes_of (Set w) = []
codes_of (Alter code args) = code ∷ []
codes_of (Commute code args) = code ∷ []
codes_of Ensure = []

-- An operation on a reference that isn't there calls nothing.
abbrev pub needed_of_found : Done → Option Edn → List ℕ
needed_of_found d (Some v) = codes_of d.op
needed_of_found d None = []

-- Nothing behind a fault is called.
abbrev pub needed_of_done : Done → Result (List Edn) AuditFault → List ℕ
needed_of_done d (Ok values) = needed_of_found d (slice_get values d.r)
needed_of_done d (Err fault) = []

abbrev pub needed_of_dones : Means → List Done → ℕ → List Done → Result (List Edn) AuditFault → List ℕ
needed_of_dones means all point [] values = []
needed_of_dones means all point (d ∷ ds) values = needed_of_done d values ++ needed_of_dones means all point ds (and_done means all point d values)

abbrev pub needed_of_step : Means → ℕ → Entry → PlainState → List ℕ
needed_of_step means point (Trans t) state = needed_of_dones means t.dones point t.dones (Ok state.refs)
needed_of_step means point (Atom a op answer) state = needed_of_done (done_of a op answer) (Ok state.atoms)
needed_of_step means point (MadeRef v) state = []
needed_of_step means point (MadeAtom v) state = []

abbrev pub needed_of_entry : Means → ℕ → Entry → Result PlainState AuditFault → List ℕ
needed_of_entry means point e (Ok state) = needed_of_step means point e state
needed_of_entry means point e (Err fault) = []

abbrev pub needed_from : Means → ℕ → List Entry → Result PlainState AuditFault → List ℕ
needed_from means point [] state = []
needed_from means point (e ∷ es) state = needed_of_entry means (point + 1) e state ++ needed_from means (point + 1) es (and_step means (point + 1) e state)

-- The functions that a replay calls, in order, up to its first fault.
abbrev pub needed : Means → Base → List Entry → List ℕ
needed means base entries = needed_from means base.point entries (Ok (state_of base))

-- the first of these codes that a table doesn't know
abbrev pub missing : (ℕ → Bool) → List ℕ → Option ℕ
missing knows codes = find (λ code. not (knows code)) codes

-- ---- what a program answers

-- An operation's call by a table that lacks this code, or none that is needed: it gives the operation's place or refuses
-- for its cause; where memory is refused it may say so in place of either.
abbrev pub PlaceAnswers : Option ℕ → Result Edn Cause → Result Edn CallFault → Type 0
PlaceAnswers lacks meant (Ok v) = (lacks ≡ None) × (meant ≡ Ok v)
PlaceAnswers lacks meant (Err (calls.NoSuchFun code)) = lacks ≡ Some code
PlaceAnswers lacks meant (Err (calls.Refused c)) = (lacks ≡ None) × (meant ≡ Err c)
PlaceAnswers lacks meant (Err calls.Memory) = lacks ≡ None

-- A program's fault is that of the replay, or the first code that is needed and missing. In one operation a missing code
-- comes after a missing reference, and before what the function says. That memory is refused is the program's own.
abbrev pub FaultComes : {State : Type 0} → Option ℕ → Result State AuditFault → AuditFault → Type 0
FaultComes lacks meant (Answer point) = (lacks ≡ None) × (meant ≡ Err (Answer point))
FaultComes lacks meant (Refuses point) = (lacks ≡ None) × (meant ≡ Err (Refuses point))
FaultComes lacks meant (NoSuch point) = (lacks ≡ None) × (meant ≡ Err (NoSuch point))
FaultComes lacks meant Memory = Unit {0}
FaultComes lacks meant (NoSuchFun code) = lacks ≡ Some code
