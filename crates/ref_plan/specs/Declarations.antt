-- How references are declared: `[NAME VALUE]`, then RULE where there is one, and then, for a ref, `:tally` where it is the tally, or,
-- for an agent, `:fail` or `:continue`, its error mode.
--
-- What a reference begins with may be judged: then its rule accepts the value, and the tally, of which there is at most one, is an
-- integer of 0 or more. Of a workload it is judged. Of a list of events it isn't: there a world that can't begin so is a reply.
use Rattle.std.specs.Prelude.{◌≡◌, ◌≤◌, ◌&&◌, ℕ, Bool, true, false, not, ◌||◌, List, [], ◌∷◌, Option, None, Some, count_by, option_and_then, option_map}
use Rattle.ref_value.specs.Edn.{Edn, keyword, keyword_of, symbol_of}
use Rattle.ref_value.specs.Names.{bytes_eq}
use Rattle.ref_agents.specs.declared.agents.ErrorMode.{ErrorMode}
use Rattle.ref_agents.specs.declared.agents.ErrorMode.TheVariants.{Fail}
use Rattle.ref_fun.specs.Core.{core_accepts}
use Rattle.ref_fun.specs.Rule.{passes}
use Rattle.ref_fun.specs.declared.rules.Rule.{Rule}
use Rattle.ref_log.specs.Tally.{is_count}
use Rattle.ref_agents.specs.declared.starts.AgentStart.{AgentStart}
use Rattle.ref_agents.specs.declared.starts.AtomStart.{AtomStart}
use Rattle.ref_agents.specs.declared.starts.RefStart.{RefStart}
use Rattle.ref_forms.specs.Names.{NamesSeen}
use Rattle.ref_forms.specs.Calls.{mode_named, rule_said, value_said}
use Rattle.ref_forms.specs.Plain.{both, elements_of, only_if}
use Rattle.ref_plan.specs.Limits.{is_shallow}
use Rattle.ref_plan.specs.Named.{AreApart}
use Rattle.ref_plan.specs.Words.{tally_word}

-- What a form declares: the mark is the keyword behind the rule.
pub record Declaration : Type 0 where
  pub name : List ℕ
  pub value : Edn
  pub rule : Option Rule
  pub mark : Option (List ℕ)

abbrev pub declaration : List ℕ → Edn → Option Rule → Option (List ℕ) → Declaration
declaration name value rule mark = record { name = name; value = value; rule = rule; mark = mark }

-- [P ARG ..]
abbrev pub rule_in : Edn → Option Rule
rule_in x = option_and_then (rule_said is_shallow) (elements_of x)

-- a rule and a mark, either of which may be left out
abbrev pub tail_said : List Edn → Option (Option Rule × Option (List ℕ))
tail_said [] = Some (None, None)
tail_said (keyword mark ∷ []) = Some (None, Some mark)
tail_said (x ∷ []) = option_map (λ rule. (Some rule, None)) (rule_in x)
tail_said (x ∷ y ∷ []) = both (λ rule mark. (Some rule, Some mark)) (rule_in x) (keyword_of y)
tail_said xs = None

abbrev pub declared_as : Option (List ℕ) → Option Edn → Option (Option Rule × Option (List ℕ)) → Option Declaration
declared_as (Some name) (Some value) (Some tail) = Some (declaration name value tail.0 tail.1)
declared_as name value tail = None

-- [NAME VALUE RULE MARK]
abbrev pub parts_declare : List Edn → Option Declaration
parts_declare (name ∷ value ∷ tail) = declared_as (symbol_of name) (value_said is_shallow value) (tail_said tail)
parts_declare xs = None

abbrev pub declaration_of : Edn → Option Declaration
declaration_of x = option_and_then parts_declare (elements_of x)

-- The rule accepts the value.
abbrev pub is_accepted : Declaration → Bool
is_accepted d = passes core_accepts d.rule d.value

-- ---- refs

-- whether the mark says that it is the tally
abbrev pub tally_said : Option (List ℕ) → Option Bool
tally_said None = Some false
tally_said (Some word) = only_if (bytes_eq word tally_word) true

abbrev pub ref_with : Bool → Declaration → Bool → Option (List ℕ × RefStart)
ref_with judged d tally =
    only_if (not judged || ((not tally || is_count (d.value ∷ [])) && is_accepted d))
    (d.name, record { value = d.value; rule = d.rule; tally = tally })

abbrev pub ref_of : Bool → Edn → Option (List ℕ × RefStart)
ref_of judged x = option_and_then (λ d. option_and_then (ref_with judged d) (tally_said d.mark)) (declaration_of x)

-- ---- atoms

abbrev pub no_mark : Option (List ℕ) → Bool
no_mark None = true
no_mark (Some word) = false

abbrev pub atom_with : Bool → Declaration → Option (List ℕ × AtomStart)
atom_with judged d = only_if (no_mark d.mark && (not judged || is_accepted d)) (d.name, record { value = d.value; rule = d.rule })

abbrev pub atom_of : Bool → Edn → Option (List ℕ × AtomStart)
atom_of judged x = option_and_then (atom_with judged) (declaration_of x)

-- ---- agents

-- the mode that a mark says, `:fail` where it is left out
abbrev pub mode_marked : Option (List ℕ) → Option ErrorMode
mode_marked None = Some Fail
mode_marked (Some word) = mode_named word

abbrev pub agent_with : Bool → Declaration → ErrorMode → Option (List ℕ × AgentStart)
agent_with judged d mode = only_if (not judged || is_accepted d) (d.name, record { value = d.value; rule = d.rule; mode = mode })

abbrev pub agent_of : Bool → Edn → Option (List ℕ × AgentStart)
agent_of judged x = option_and_then (λ d. option_and_then (agent_with judged d) (mode_marked d.mark)) (declaration_of x)

-- ---- all

-- Each of these forms declares a reference of this name, which begins so.
abbrev pub AreDeclared : {Start : Type 0} → (Edn → Option (List ℕ × Start)) → List Edn → List (List ℕ) → List Start → Type 0
AreDeclared said [] [] [] = Unit {0}
AreDeclared said (x ∷ xs) (name ∷ names) (start ∷ starts) = (said x ≡ Some (name, start)) × AreDeclared said xs names starts
AreDeclared said xs names starts = ⊥

-- how many of these refs are judged to be the tally
abbrev pub tallies : Bool → List RefStart → ℕ
tallies judged refs = count_by (λ s. judged && s.tally) refs

-- The references that these forms declare, with their names: no two have one name, and at most one ref is judged to be the tally.
pub record AreReferences (judged : Bool) (ref_forms atom_forms agent_forms : List Edn) (names : NamesSeen) (refs : List RefStart) (atoms : List AtomStart) (agents : List AgentStart) : Type 0 where
  pub refs_are : AreDeclared (ref_of judged) ref_forms names.refs refs
  pub atoms_are : AreDeclared (atom_of judged) atom_forms names.atoms atoms
  pub agents_are : AreDeclared (agent_of judged) agent_forms names.agents agents
  pub apart : AreApart names
  pub one_tally : tallies judged refs ≤ 1
