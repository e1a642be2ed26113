-- The guards of references: the rule and the watches that each has next to its value, as Clojure has a validator and
-- watches for refs, atoms and agents alike. Guards and values are lists by number.
use Rattle.std.specs.Prelude.{◌≡◌, ℕ, Bool, true, if◌then◌else◌, List, [], ◌∷◌, ◌++◌, Option, None, Some, slice_get, slice_set}
use Rattle.std.specs.List.{list_all}
use Rattle.ref_value.specs.Edn.{Edn}
use Rattle.ref_fun.specs.Rule.{Accepts, is_known, passes, unknown}
use Rattle.ref_fun.specs.declared.rules.Rule.{Rule}
use Rattle.ref_log.specs.Watches.{with_key, without_key}
use Rattle.ref_log.specs.declared.faults.RuleFault.{RuleFault}
use Rattle.ref_log.specs.declared.faults.RuleFault.TheVariants.{NoSuch, NoSuchFun, Invalid}
use Rattle.ref_log.specs.declared.guards.Guard.{Guard}

-- the rule of a reference, if it is there and has one
abbrev pub rule_if_here : Option Guard → Option Rule
rule_if_here None = None
rule_if_here (Some guard) = guard.rule

abbrev pub rule_at : List Guard → ℕ → Option Rule
rule_at guards n = rule_if_here (slice_get guards n)

-- the keys of its watches, in the order of adding; none where it isn't there
abbrev pub keys_if_here : Option Guard → List Edn
keys_if_here None = []
keys_if_here (Some guard) = guard.watches

abbrev pub keys_at : List Guard → ℕ → List Edn
keys_at guards n = keys_if_here (slice_get guards n)

-- ---- what rules accept

abbrev pub passes_if_here : Accepts → Option Rule → Option Edn → Bool
passes_if_here accepts rule None = true
passes_if_here accepts rule (Some v) = passes accepts rule v

-- Whether the rule of a reference, if it has one, accepts its value.
abbrev pub is_accepted_at : Accepts → List Guard → List Edn → ℕ → Bool
is_accepted_at accepts guards values n = passes_if_here accepts (rule_at guards n) (slice_get values n)

-- Each reference with a rule has a value that the rule accepts.
abbrev pub AreAccepted : Accepts → List Guard → List Edn → Type 0
AreAccepted accepts guards values = (n : ℕ) → is_accepted_at accepts guards values n ≡ true

-- Whether a table has the predicate of each rule.
abbrev pub are_known : (ℕ → Bool) → List Guard → Bool
are_known knows guards = list_all (λ guard. is_known knows guard.rule) guards

-- ---- guards after a call

-- with those of one reference more
abbrev pub with_guard : List Guard → Option Rule → List Guard
with_guard guards rule = guards ++ record { rule = rule; watches = [] } ∷ []

abbrev pub change_if_here : List Guard → ℕ → (Guard → Guard) → Option Guard → List Guard
change_if_here guards n change None = guards
change_if_here guards n change (Some guard) = slice_set guards n (change guard)

-- with those of one reference changed, if it is there
abbrev pub change_guard : List Guard → ℕ → (Guard → Guard) → List Guard
change_guard guards n change = change_if_here guards n change (slice_get guards n)

-- with another rule, or none
abbrev pub with_rule : List Guard → ℕ → Option Rule → List Guard
with_rule guards n rule = change_guard guards n (λ guard. record guard { rule = rule })

-- with a watch more; a key that is there already stays where it is
abbrev pub with_watch : List Guard → ℕ → Edn → List Guard
with_watch guards n key = change_guard guards n (λ guard. record guard { watches = with_key guard.watches key })

-- without a watch
abbrev pub without_watch : List Guard → ℕ → Edn → List Guard
without_watch guards n key = change_guard guards n (λ guard. record guard { watches = without_key guard.watches key })

-- ---- when a reference can be given another rule

abbrev pub rule_fault : Option ℕ → Bool → Option RuleFault
rule_fault (Some code) ok = Some (NoSuchFun code)
rule_fault None ok = if ok then None else Some Invalid

-- the first fault of giving a reference with this value, if it is there, another rule, or none
abbrev pub rule_refusal : Accepts → (ℕ → Bool) → Option Edn → Option Rule → Option RuleFault
rule_refusal accepts knows None rule = Some NoSuch
rule_refusal accepts knows (Some v) rule = rule_fault (unknown knows rule) (passes accepts rule v)
