-- When an atom is changed, in plain words.
use Rattle.std.specs.Prelude.{◌≡◌, ◌≢◌, ◌↔◌, ◌⊎◌, ℕ, ◌<◌, ◌≤◌, Bool, true, false, slice_get, Option, None, Some}
use Rattle.ref_value.specs.Edn.{Edn}
use Rattle.ref_fun.specs.Calls.{Known}
use Rattle.ref_fun.specs.Meaning.{Means}
use Rattle.ref_fun.specs.Rule.{Accepts}
use Rattle.ref_fun.specs.declared.rules.Rule.{Rule}
use Rattle.ref_log.specs.declared.operations.Op.{Op}
use Rattle.ref_atoms.specs.Atoms.{AtomsSeen}
use Rattle.ref_atoms.specs.Change.{change_refusal, compare_refusal, is_same_at}
use Rattle.ref_atoms.specs.declared.faults.AtomFault.{AtomFault}
use Rattle.ref_atoms.specs.declared.faults.AtomFault.TheVariants as atom_faults
use Rattle.ref_play.specs.Plain.{HasRule, KnowsRuleOf, Makes, RefusesValue, RuleAccepts, RuledBy}
use Rattle.ref_play.specs.PlainTx.{Calls, HasCalled}
use Rattle.ref_log.specs.Limits.{last_point}

-- A predicate of a rule doesn't accept a value.
abbrev pub IsUnacceptable : Accepts → AtomsSeen → ℕ → Edn → Type 0
IsUnacceptable accepts atoms a v = (rule : Rule) × HasRule atoms.guards a rule × (accepts rule.code rule.args v ≡ false)

-- ---- `swap!` and `reset!`

module _ (means : Means) (accepts : Accepts) (knows : Known) (atoms : AtomsSeen) (at a : ℕ) (op : Op) where
  -- The atom has this value, and the table has what is called: the function, and the predicate of the atom's rule.
  abbrev pub IsCallable : Edn → Type 0
  IsCallable old = (slice_get atoms.values a ≡ Some old) × HasCalled knows.funs op × KnowsRuleOf knows.preds atoms.guards a

  -- The rule accepts the new value, and there is a point; or what stands against it, where nothing does that is asked before.
  abbrev pub ChangesSo : Option AtomFault → Type 0
  ChangesSo None = (old new : Edn) × IsCallable old × Makes means op old new × RuleAccepts accepts atoms.guards a new × (at ≤ last_point)
  ChangesSo (Some atom_faults.NoSuchAtom) = slice_get atoms.values a ≡ None
  ChangesSo (Some (atom_faults.NoSuchFun code)) =
      (slice_get atoms.values a ≢ None)
      × ((Calls code op × (knows.funs code ≡ false)) ⊎ (HasCalled knows.funs op × RuledBy atoms.guards code a × (knows.preds code ≡ false)))
  ChangesSo (Some (atom_faults.Refused cause)) = (old : Edn) × IsCallable old × RefusesValue means op old cause
  ChangesSo (Some atom_faults.Invalid) = (old new : Edn) × IsCallable old × Makes means op old new × IsUnacceptable accepts atoms a new
  ChangesSo (Some atom_faults.PointLimit) = (old new : Edn) × IsCallable old × Makes means op old new × RuleAccepts accepts atoms.guards a new × (last_point < at)
  ChangesSo (Some atom_faults.Memory) = ⊥

abbrev pub ChangesMean : Means → Accepts → Type 0
ChangesMean means accepts =
    (knows : Known) (atoms : AtomsSeen) (at a : ℕ) (op : Op) (refusal : Option AtomFault)
    → change_refusal means accepts knows atoms at a op ≡ refusal ↔ ChangesSo means accepts knows atoms at a op refusal

-- ---- `compare-and-set!`

module _ (accepts : Accepts) (knows : ℕ → Bool) (atoms : AtomsSeen) (at a : ℕ) (old new : Edn) where
  -- The rule is asked of the new value, whether the atom has the old one or not; a point is needed only where it has.
  abbrev pub ComparesSo : Option AtomFault → Type 0
  ComparesSo None =
      (slice_get atoms.values a ≢ None) × KnowsRuleOf knows atoms.guards a × RuleAccepts accepts atoms.guards a new × (slice_get atoms.values a ≡ Some old → at ≤ last_point)
  ComparesSo (Some atom_faults.NoSuchAtom) = slice_get atoms.values a ≡ None
  ComparesSo (Some (atom_faults.NoSuchFun code)) = (slice_get atoms.values a ≢ None) × RuledBy atoms.guards code a × (knows code ≡ false)
  ComparesSo (Some atom_faults.Invalid) = (slice_get atoms.values a ≢ None) × KnowsRuleOf knows atoms.guards a × IsUnacceptable accepts atoms a new
  ComparesSo (Some atom_faults.PointLimit) =
      (slice_get atoms.values a ≡ Some old) × KnowsRuleOf knows atoms.guards a × RuleAccepts accepts atoms.guards a new × (last_point < at)
  ComparesSo (Some (atom_faults.Refused cause)) = ⊥
  ComparesSo (Some atom_faults.Memory) = ⊥

-- So it is refused, and it is done where the atom has the old value.
pub record ComparesMean (accepts : Accepts) : Type 0 where
  pub refused : (knows : ℕ → Bool) (atoms : AtomsSeen) (at a : ℕ) (old new : Edn) (refusal : Option AtomFault)
      → compare_refusal accepts knows atoms at a old new ≡ refusal ↔ ComparesSo accepts knows atoms at a old new refusal
  pub done : (atoms : AtomsSeen) (a : ℕ) (old : Edn) → is_same_at atoms a old ≡ true ↔ slice_get atoms.values a ≡ Some old
