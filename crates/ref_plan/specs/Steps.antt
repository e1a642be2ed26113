-- How the steps of a worker are written, `[WORD REST ..]`, and what they say:
--
--   [:tx OP ..]               a transaction with these operations, at most 256
--   [:swap X F ARG ..]        `swap!` of the atom X by the function F
--   [:reset X V]              `reset!` of X to the value V
--   [:cas X OLD NEW]          `compare-and-set!` of X
--   [:send G F ARG ..]        `send` to the agent G
--   [:send-carry G [F ARG ..] [H F ARG ..] ..]   in version 2: likewise, and it carries sends, 1 to 8
--   [:restart G V]            `restart-agent` of G with the state V, where what waits stays
--   [:restart G V :clear]     the same, which drops what waits
--   [:mode G :fail]           `set-error-mode!` of G, or :continue
--   [:validator NAME RULE]    `set-validator!` of any reference; nil in place of the rule takes it away
--
-- ref_calls has the words, and which version has each.
use Rattle.std.specs.Prelude.{ℕ, List, Option, option_and_then, option_map}
use Rattle.ref_value.specs.Edn.{Edn}
use Rattle.ref_forms.specs.Names.{NamesSeen}
use Rattle.ref_forms.specs.Calls.{mode_said, rule_of, value_said}
use Rattle.ref_forms.specs.Plain.{all_said, elements_within, tagged_of, then_said, two_said}
use Rattle.ref_forms.specs.References.{number_said, state_said}
use Rattle.ref_forms.specs.declared.kinds.Kind.TheVariants as kinds
use Rattle.ref_calls.specs.Words.{step_named}
use Rattle.ref_calls.specs.declared.words.StepWord.{StepWord}
use Rattle.ref_calls.specs.declared.words.StepWord.TheVariants as words
use Rattle.ref_calls.specs.declared.words.Version.{Version}
use Rattle.ref_plan.specs.Limits.{is_shallow, most_steps}
use Rattle.ref_plan.specs.Named.{who_of}
use Rattle.ref_plan.specs.Operations.{call_said, ops_said, send_carry_said, setting_said}
use Rattle.ref_plan.specs.declared.plans.Step.{Step}
use Rattle.ref_plan.specs.declared.plans.Step.TheVariants.{Tx, Swap, Reset, CompareAndSet, Send, Restart, Mode, Validator}

-- X OLD NEW
abbrev pub comparison_said : NamesSeen → List Edn → Option (ℕ × (Edn × Edn))
comparison_said names xs =
    then_said (number_said (who_of names) kinds.Atom) (two_said (value_said is_shallow) (value_said is_shallow)) xs

-- what stands behind the word
abbrev pub step_said : Version → NamesSeen → StepWord → List Edn → Option Step
step_said version names words.Tx xs = option_map Tx (ops_said version names xs)
step_said version names words.Swap xs = option_map (λ c. Swap c.0 c.1) (call_said names kinds.Atom xs)
step_said version names words.Reset xs = option_map (λ s. Reset s.0 s.1) (setting_said names kinds.Atom xs)
step_said version names words.CompareAndSet xs = option_map (λ c. CompareAndSet c.0 c.1.0 c.1.1) (comparison_said names xs)
step_said version names words.Send xs = option_map (λ c. Send (record { agent = c.0; action = c.1 })) (call_said names kinds.Agent xs)
step_said version names words.SendCarry xs = option_map (λ c. Send (record { agent = c.0; action = c.1 })) (send_carry_said names xs)
step_said version names words.Restart xs = option_map (λ s. Restart s.0 s.1.0 s.1.1) (then_said (number_said (who_of names) kinds.Agent) (state_said is_shallow) xs)
step_said version names words.Mode xs = option_map (λ m. Mode m.0 m.1) (two_said (number_said (who_of names) kinds.Agent) mode_said xs)
step_said version names words.Validator xs = option_map (λ s. Validator s.0 s.1) (two_said (who_of names) (rule_of is_shallow) xs)

-- A word that the version lacks says nothing.
abbrev pub tagged_step : Version → NamesSeen → List ℕ → List Edn → Option Step
tagged_step version names word xs = option_and_then (λ w. step_said version names w xs) (step_named version word)

abbrev pub step_of : Version → NamesSeen → Edn → Option Step
step_of version names x = option_and_then (λ t. tagged_step version names t.0 t.1) (tagged_of x)

-- `[STEP ..]`, at most 10,000
abbrev pub worker_of : Version → NamesSeen → Edn → Option (List Step)
worker_of version names x = option_and_then (all_said (step_of version names)) (elements_within most_steps x)
