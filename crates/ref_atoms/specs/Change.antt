-- When an atom can be changed, and what comes of it.
--
-- Clojure's page on atoms: `swap!` sets an atom to the function of its value, `reset!` to a value regardless, and
-- `compare-and-set!` to a value where the atom has the one that is given. Each asks the validator of the new value first.
use Rattle.std.specs.Prelude.{◌≡◌, ℕ, nat_lt, Bool, false, if◌then◌else◌, Option, None, Some, Result, Ok, Err, slice_get}
use Rattle.std.specs.Option.{option_map, option_or}
use Rattle.std.specs.Ordering.{eq_by_cmp}
use Rattle.ref_value.specs.Edn.{Edn}
use Rattle.ref_value.specs.Order.{edn_cmp}
use Rattle.ref_fun.specs.Calls.{Known}
use Rattle.ref_fun.specs.Meaning.{Means}
use Rattle.ref_fun.specs.Rule.{Accepts, passes, unknown}
use Rattle.ref_fun.specs.declared.faults.Cause.{Cause}
use Rattle.ref_fun.specs.declared.rules.Rule.{Rule}
use Rattle.ref_log.specs.Guards.{keys_at, rule_at}
use Rattle.ref_log.specs.Replay.{codes_of, missing, place}
use Rattle.ref_log.specs.Watches.{notices_of}
use Rattle.ref_log.specs.declared.entries.Entry.TheVariants as entries
use Rattle.ref_log.specs.declared.notices.Who.TheVariants as who
use Rattle.ref_log.specs.declared.operations.Op.{Op}
use Rattle.ref_log.specs.declared.operations.Op.TheVariants.{Set, Alter, Commute, Ensure}
use Rattle.ref_atoms.specs.Atoms.{AtomsSeen}
use Rattle.ref_atoms.specs.declared.changes.Change.{Change}
use Rattle.ref_atoms.specs.declared.faults.AtomFault.{AtomFault}
use Rattle.ref_atoms.specs.declared.faults.AtomFault.TheVariants.{NoSuchAtom, NoSuchFun, Refused, Invalid, PointLimit}
use Rattle.ref_log.specs.Limits.{last_point}

abbrev pub invalid : Accepts → Option Rule → Edn → Option AtomFault
invalid accepts rule v = if passes accepts rule v then None else Some Invalid

abbrev pub past_points : ℕ → Option AtomFault
past_points at = if nat_lt last_point at then Some PointLimit else None

-- ---- swap and reset

-- the codes that the table lacks: that of the function, and then that of the rule
abbrev pub lacking : Known → Option Rule → Op → Option AtomFault
lacking knows rule op =
    option_or (option_map NoSuchFun (missing knows.funs (codes_of op))) (option_map NoSuchFun (unknown knows.preds rule))

-- what the function and the rule say
abbrev pub late_refusal : Accepts → Option Rule → ℕ → Result Edn Cause → Option AtomFault
late_refusal accepts rule at (Ok v) = option_or (invalid accepts rule v) (past_points at)
late_refusal accepts rule at (Err cause) = Some (Refused cause)

-- What is known before any memory is taken: of a value that is given, all; of a function, whether the table has it.
abbrev pub given_refusal : Accepts → Option Rule → ℕ → Op → Option AtomFault
given_refusal accepts rule at (Set v) = late_refusal accepts rule at (Ok v)
given_refusal accepts rule at (Alter code args) = None
given_refusal accepts rule at (Commute code args) = None
given_refusal accepts rule at Ensure = None

abbrev pub early_refusal_if_here : Accepts → Known → Option Rule → ℕ → Op → Option Edn → Option AtomFault
early_refusal_if_here accepts knows rule at op None = Some NoSuchAtom
early_refusal_if_here accepts knows rule at op (Some v) = option_or (lacking knows rule op) (given_refusal accepts rule at op)

abbrev pub early_refusal : Accepts → Known → AtomsSeen → ℕ → ℕ → Op → Option AtomFault
early_refusal accepts knows atoms at a op = early_refusal_if_here accepts knows (rule_at atoms.guards a) at op (slice_get atoms.values a)

abbrev pub refusal_if_here : Means → Accepts → Known → Option Rule → ℕ → Op → Option Edn → Option AtomFault
refusal_if_here means accepts knows rule at op None = Some NoSuchAtom
refusal_if_here means accepts knows rule at op (Some v) = option_or (lacking knows rule op) (late_refusal accepts rule at (place means op v))

-- the first fault of an operation on an atom, where it would be the entry at this point
abbrev pub change_refusal : Means → Accepts → Known → AtomsSeen → ℕ → ℕ → Op → Option AtomFault
change_refusal means accepts knows atoms at a op = refusal_if_here means accepts knows (rule_at atoms.guards a) at op (slice_get atoms.values a)

-- ---- compare and set

-- whether a value is the old one
abbrev pub is_same : Edn → Edn → Bool
is_same old v = eq_by_cmp edn_cmp v old

abbrev pub is_same_if_here : Option Edn → Edn → Bool
is_same_if_here None old = false
is_same_if_here (Some v) old = is_same old v

-- whether an atom has the old value
abbrev pub is_same_at : AtomsSeen → ℕ → Edn → Bool
is_same_at atoms a old = is_same_if_here (slice_get atoms.values a) old

-- The rule is asked of the new value, also where the atom has another one than the old. The points end only where an entry
-- would be added.
abbrev pub compare_refusal_if_here : Accepts → (ℕ → Bool) → Option Rule → ℕ → Edn → Edn → Option Edn → Option AtomFault
compare_refusal_if_here accepts knows rule at old new None = Some NoSuchAtom
compare_refusal_if_here accepts knows rule at old new (Some v) =
    option_or (option_map NoSuchFun (unknown knows rule))
    (option_or (invalid accepts rule new)
    (if is_same old v then past_points at else None))

abbrev pub compare_refusal : Accepts → (ℕ → Bool) → AtomsSeen → ℕ → ℕ → Edn → Edn → Option AtomFault
compare_refusal accepts knows atoms at a old new = compare_refusal_if_here accepts knows (rule_at atoms.guards a) at old new (slice_get atoms.values a)

-- ---- what comes of it

-- Of an atom with the value before: its value after the operation, its entry, what is returned and its
-- notices.
abbrev pub IsChangeOf : Means → AtomsSeen → ℕ → Op → Change → Type 0
IsChangeOf means atoms a op change =
    (slice_get atoms.values a ≡ Some change.swapped.old)
    × (place means op change.swapped.old ≡ Ok change.swapped.new)
    × (change.entry ≡ entries.Atom a op change.swapped.new)
    × (change.swapped.notices.items ≡ notices_of (who.Atom a) (keys_at atoms.guards a) change.swapped.old change.swapped.new)
    × (change.a ≡ a) × (change.value ≡ change.swapped.new)
