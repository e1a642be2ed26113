-- What forms say of references, behind the word that says what is done to one. `named` is the reference that a form names: documents
-- differ in it. `is_value` says which values may stand there.
use Rattle.std.specs.Prelude.{ℕ, nat_le, Bool, ◌&&◌, List, [], ◌∷◌, length, Option, None, Some, option_and_then, option_map, codes}
use Rattle.ref_value.specs.Edn.{Edn}
use Rattle.ref_fun.specs.declared.actions.Action.{Action}
use Rattle.ref_fun.specs.declared.carries.Carry.{Carry}
use Rattle.ref_log.specs.declared.notices.Who.{Who}
use Rattle.ref_log.specs.declared.notices.Who.TheVariants.{Ref, Atom, Agent}
use Rattle.ref_forms.specs.Calls.{action_said, carrying, value_said}
use Rattle.ref_forms.specs.Plain.{all_said, both, elements_of, mark_said, only_if, then_said}
use Rattle.ref_forms.specs.declared.kinds.Kind.{Kind}
use Rattle.ref_forms.specs.declared.kinds.Kind.TheVariants as kinds

-- the reference of a kind that has this number
abbrev pub of_kind : Kind → ℕ → Who
of_kind kinds.Ref n = Ref n
of_kind kinds.Atom n = Atom n
of_kind kinds.Agent n = Agent n

-- the number of a reference, if it is of this kind
abbrev pub number_at : Kind → Who → Option ℕ
number_at kinds.Ref (Ref n) = Some n
number_at kinds.Atom (Atom n) = Some n
number_at kinds.Agent (Agent n) = Some n
number_at kind who = None

-- the number of the reference of a kind that a form names
abbrev pub number_said : (Edn → Option Who) → Kind → Edn → Option ℕ
number_said named kind x = option_and_then (number_at kind) (named x)

-- behind the state of a restart: what waits is dropped
abbrev pub clear_word : List ℕ
clear_word = codes "clear"

-- a state, and whether what waits is dropped
abbrev pub state_said : (Edn → Bool) → List Edn → Option (Edn × Bool)
state_said is_value [] = None
state_said is_value (v ∷ mark) = both (λ x clear. (x, clear)) (value_said is_value v) (mark_said clear_word mark)

-- ---- sends, and what they carry

-- NAME F ARG ..: an action for an agent
abbrev pub send_said : (Edn → Option Who) → (Edn → Bool) → List Edn → Option (ℕ × Action)
send_said named is_value xs = then_said (number_said named kinds.Agent) (action_said is_value) xs

-- [NAME F ARG ..]: a send that an action carries
abbrev pub carry_with : ℕ × Action → Carry
carry_with send = record { g = send.0; code = send.1.code; args = send.1.args }

abbrev pub carry_said : (Edn → Option Who) → (Edn → Bool) → Edn → Option Carry
carry_said named is_value x = option_map carry_with (option_and_then (send_said named is_value) (elements_of x))

-- 1 to 8 of them
abbrev pub carries_said : (Edn → Option Who) → (Edn → Bool) → List Edn → Option (List Carry)
carries_said named is_value xs =
    option_and_then (all_said (carry_said named is_value)) (only_if (nat_le 1 (length xs) && nat_le (length xs) 8) xs)

-- NAME [F ARG ..] [NAME F ARG ..] ..: an action for an agent, and what it carries
abbrev pub carrying_said : (Edn → Option Who) → (Edn → Bool) → List Edn → Option (ℕ × Action)
carrying_said named is_value (g ∷ call ∷ carries) =
    both (λ send cs. (send.0, carrying send.1 cs))
    (option_and_then (λ xs. send_said named is_value (g ∷ xs)) (elements_of call)) (carries_said named is_value carries)
carrying_said named is_value xs = None
