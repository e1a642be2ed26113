-- Whether a rule accepts a value. A rule is a predicate by its code, with its arguments; `accepts` says what predicates
-- accept, and `knows` which of them a table has.
use Rattle.std.specs.Prelude.{ℕ, Bool, true, if◌then◌else◌, List, Option, None, Some}
use Rattle.ref_value.specs.Edn.{Edn}
use Rattle.ref_fun.specs.declared.rules.Rule.{Rule}

-- what predicates accept
abbrev pub Accepts : Type 0
Accepts = ℕ → List Edn → Edn → Bool

abbrev pub is_accepted : Accepts → Rule → Edn → Bool
is_accepted accepts rule value = accepts rule.code rule.args value

-- whether a reference with this rule, or with none, may have a value
abbrev pub passes : Accepts → Option Rule → Edn → Bool
passes accepts None value = true
passes accepts (Some rule) value = is_accepted accepts rule value

-- the code of a rule that a table doesn't know
abbrev pub unknown : (ℕ → Bool) → Option Rule → Option ℕ
unknown knows None = None
unknown knows (Some rule) = if knows rule.code then None else Some rule.code

-- Whether a table knows a rule, or there is none.
abbrev pub is_known : (ℕ → Bool) → Option Rule → Bool
is_known knows None = true
is_known knows (Some rule) = knows rule.code
