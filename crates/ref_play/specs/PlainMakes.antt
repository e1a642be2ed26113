-- When a reference is made, when it can get another rule, and which it has, in plain words.
use Rattle.std.specs.Prelude.{◌≡◌, ◌≢◌, ◌↔◌, ◌⊎◌, ℕ, pos, ◌<◌, ◌≤◌, Bool, true, false, List, length, Option, None, Some}
use Rattle.ref_value.specs.Edn.{Edn, int}
use Rattle.ref_fun.specs.Rule.{Accepts}
use Rattle.ref_fun.specs.declared.rules.Rule.{Rule}
use Rattle.ref_log.specs.Guards.{rule_at, rule_refusal}
use Rattle.ref_log.specs.Make as makes
use Rattle.ref_log.specs.declared.faults.MakeFault.{MakeFault}
use Rattle.ref_log.specs.declared.faults.MakeFault.TheVariants as make_faults
use Rattle.ref_log.specs.declared.faults.RuleFault.{RuleFault}
use Rattle.ref_log.specs.declared.faults.RuleFault.TheVariants as rule_faults
use Rattle.ref_log.specs.declared.guards.Guard.{Guard}
use Rattle.ref_refs.specs.Make as refs
use Rattle.ref_refs.specs.Seen.{RefsSeen}
use Rattle.ref_agents.specs.Agents.{AgentsSeen}
use Rattle.ref_agents.specs.Make as agents
use Rattle.ref_log.specs.Limits.{last_point, most_references}
use Rattle.ref_play.specs.Plain.{HasRule}

-- ---- a rule, or none

-- A table has the predicate of a rule; or it lacks it, which has this code.
abbrev pub IsKnownRule : (ℕ → Bool) → Option Rule → Type 0
IsKnownRule knows rule = (it : Rule) → rule ≡ Some it → knows it.code ≡ true

abbrev pub LacksRule : (ℕ → Bool) → Option Rule → ℕ → Type 0
LacksRule knows rule code = (it : Rule) × (rule ≡ Some it) × (it.code ≡ code) × (knows code ≡ false)

-- A rule accepts a value, or doesn't.
abbrev pub TakesValue : Accepts → Option Rule → Edn → Type 0
TakesValue accepts rule v = (it : Rule) → rule ≡ Some it → accepts it.code it.args v ≡ true

abbrev pub RefusesIt : Accepts → Option Rule → Edn → Type 0
RefusesIt accepts rule v = (it : Rule) × (rule ≡ Some it) × (accepts it.code it.args v ≡ false)

-- ---- making a reference

module _ (accepts : Accepts) (knows : ℕ → Bool) (count : ℕ) (BadTally : Type 0) (at : ℕ) (start : Edn) (rule : Option Rule) where
  -- There are fewer than 2^20 of its kind and it is no tally that can't be one, the rule accepts the value, and there is a point; or
  -- what stands against it, where nothing does that is asked before.
  abbrev pub HasRoom : Type 0
  HasRoom = IsKnownRule knows rule × (count < most_references) × (BadTally → ⊥)

  abbrev pub MakesSo : Option MakeFault → Type 0
  MakesSo None = HasRoom × TakesValue accepts rule start × (at ≤ last_point)
  MakesSo (Some (make_faults.NoSuchFun code)) = LacksRule knows rule code
  MakesSo (Some make_faults.Full) = IsKnownRule knows rule × (most_references ≤ count)
  MakesSo (Some make_faults.BadTally) = IsKnownRule knows rule × (count < most_references) × BadTally
  MakesSo (Some make_faults.Invalid) = HasRoom × RefusesIt accepts rule start
  MakesSo (Some make_faults.PointLimit) = HasRoom × TakesValue accepts rule start × (last_point < at)
  MakesSo (Some make_faults.Memory) = ⊥

-- A ref can't be the tally where there is one, or where it doesn't start with an integer of 0 or more.
abbrev pub IsBadTally : RefsSeen → Edn → Bool → Type 0
IsBadTally store start tally = (tally ≡ true) × ((store.tally ≢ None) ⊎ ((n : ℕ) → start ≢ int (pos n)))

pub record MakingsMean (accepts : Accepts) : Type 0 where
  pub refs : (knows : ℕ → Bool) (store : RefsSeen) (at : ℕ) (start : Edn) (rule : Option Rule) (tally : Bool) (refusal : Option MakeFault)
      → refs.make_refusal accepts knows store at start rule tally ≡ refusal
      ↔ MakesSo accepts knows (length store.values) (IsBadTally store start tally) at start rule refusal
  -- No atom and no agent is a tally, and an agent needs no point.
  pub atoms : (knows : ℕ → Bool) (count at : ℕ) (start : Edn) (rule : Option Rule) (refusal : Option MakeFault)
      → makes.make_refusal accepts knows count false at start rule ≡ refusal ↔ MakesSo accepts knows count ⊥ at start rule refusal
  pub agents : (knows : ℕ → Bool) (store : AgentsSeen) (start : Edn) (rule : Option Rule) (refusal : Option MakeFault)
      → agents.agent_refusal accepts knows store start rule ≡ refusal ↔ MakesSo accepts knows (length store.agents) ⊥ 0 start rule refusal

-- ---- another rule

-- The reference is there, and the rule accepts its value.
abbrev pub SetsSo : Accepts → (ℕ → Bool) → Option Edn → Option Rule → Option RuleFault → Type 0
SetsSo accepts knows value rule None = (v : Edn) × (value ≡ Some v) × IsKnownRule knows rule × TakesValue accepts rule v
SetsSo accepts knows value rule (Some rule_faults.NoSuch) = value ≡ None
SetsSo accepts knows value rule (Some (rule_faults.NoSuchFun code)) = (value ≢ None) × LacksRule knows rule code
SetsSo accepts knows value rule (Some rule_faults.Invalid) = (v : Edn) × (value ≡ Some v) × IsKnownRule knows rule × RefusesIt accepts rule v
SetsSo accepts knows value rule (Some rule_faults.Memory) = ⊥

abbrev pub RulesMean : Accepts → Type 0
RulesMean accepts =
    (knows : ℕ → Bool) (value : Option Edn) (rule : Option Rule) (refusal : Option RuleFault)
    → rule_refusal accepts knows value rule ≡ refusal ↔ SetsSo accepts knows value rule refusal

-- ---- the rule of a reference

abbrev pub RuleMeans : Type 0
RuleMeans = (guards : List Guard) (n : ℕ) (rule : Rule) → rule_at guards n ≡ Some rule ↔ HasRule guards n rule
