-- What forms of functions and predicates of Core say, with their arguments, and forms of error modes. `is_value` says which values may be
-- arguments: documents differ in it.
use Rattle.std.specs.Prelude.{ℕ, nat_le, Bool, true, if◌then◌else◌, ◌&&◌, List, [], ◌∷◌, length, Option, None, Some, option_map, option_and_then, codes}
use Rattle.std.specs.List.{list_all}
use Rattle.ref_value.specs.Edn.{Edn, nil, vector, list_of, keyword_of, symbol_of}
use Rattle.ref_value.specs.Names.{bytes_eq}
use Rattle.ref_fun.specs.Names.{code_in, core_names, is_function, is_predicate}
use Rattle.ref_fun.specs.declared.actions.Action.{Action}
use Rattle.ref_fun.specs.declared.carries.Carry.{Carry}
use Rattle.ref_fun.specs.declared.rules.Rule.{Rule}
use Rattle.ref_agents.specs.declared.agents.ErrorMode.{ErrorMode}
use Rattle.ref_agents.specs.declared.agents.ErrorMode.TheVariants as modes
use Rattle.ref_forms.specs.Plain.{both, elements_of, only_if}

-- every value
abbrev pub any : Edn → Bool
any x = true

-- the code of Core that a name names, where it is one of these
abbrev pub code_for : (ℕ → Bool) → List ℕ → Option ℕ
code_for is_one name = option_and_then (λ code. only_if (is_one code) code) (code_in core_names name)

-- the same of a symbol
abbrev pub code_of : (ℕ → Bool) → Edn → Option ℕ
code_of is_one x = option_and_then (code_for is_one) (symbol_of x)

abbrev pub value_said : (Edn → Bool) → Edn → Option Edn
value_said is_value x = only_if (is_value x) x

-- at most 8 arguments
abbrev pub args_said : (Edn → Bool) → List Edn → Option (List Edn)
args_said is_value xs = only_if (nat_le (length xs) 8 && list_all is_value xs) xs

-- F [ARG ..]: an action that carries nothing
abbrev pub action_of : Edn → Edn → Option Action
action_of f args = both (λ code xs. record { code = code; args = xs; carries = [] }) (code_of is_function f) (option_and_then (args_said any) (elements_of args))

-- F ARG ..
abbrev pub action_said : (Edn → Bool) → List Edn → Option Action
action_said is_value [] = None
action_said is_value (f ∷ args) = both (λ code xs. record { code = code; args = xs; carries = [] }) (code_of is_function f) (args_said is_value args)

-- an action that carries these
abbrev pub carrying : Action → List Carry → Action
carrying action carries = record { code = action.code; args = action.args; carries = carries }

-- P ARG ..
abbrev pub rule_said : (Edn → Bool) → List Edn → Option Rule
rule_said is_value [] = None
rule_said is_value (p ∷ args) = both (λ code xs. record { code = code; args = xs }) (code_of is_predicate p) (args_said is_value args)

-- [P ARG ..], or nil where there is no rule
abbrev pub rule_of : (Edn → Bool) → Edn → Option (Option Rule)
rule_of is_value nil = Some None
rule_of is_value (vector xs) = option_map Some (rule_said is_value (list_of xs))
rule_of is_value x = None

-- ---- error modes

abbrev pub fail_word : List ℕ
fail_word = codes "fail"

abbrev pub continue_word : List ℕ
continue_word = codes "continue"

abbrev pub mode_named : List ℕ → Option ErrorMode
mode_named word =
    if bytes_eq word fail_word then Some modes.Fail else
    if bytes_eq word continue_word then Some modes.Continue else
    None

abbrev pub mode_said : Edn → Option ErrorMode
mode_said x = option_and_then mode_named (keyword_of x)
