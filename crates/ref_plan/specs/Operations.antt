-- How the operations of a transaction are written, `[WORD NAME REST ..]`, and what they say:
--
--   [:set R V]              the ref R is set to the value V
--   [:alter R F ARG ..]     it gets what the function F gives
--   [:commute R F ARG ..]   likewise, by `commute`
--   [:ensure R]             it is ensured
--   [:require R P ARG ..]   the predicate P has to accept what the transaction sees of it
--   [:send G F ARG ..]      an action is sent to the agent G
--   [:send-carry G [F ARG ..] [H F ARG ..] ..]   in version 2: likewise, and it carries sends, 1 to 8
--
-- ref_calls has the words, and which version has each.
use Rattle.std.specs.Prelude.{ℕ, nat_le, List, length, Option, option_and_then, option_map}
use Rattle.ref_value.specs.Edn.{Edn}
use Rattle.ref_fun.specs.declared.actions.Action.{Action}
use Rattle.ref_forms.specs.Names.{NamesSeen}
use Rattle.ref_log.specs.declared.operations.Op.TheVariants.{Set, Alter, Commute, Ensure}
use Rattle.ref_forms.specs.Calls.{action_said, rule_said, value_said}
use Rattle.ref_forms.specs.Plain.{all_said, one_said, only_if, tagged_of, then_said, two_said}
use Rattle.ref_forms.specs.References.{carrying_said, number_said}
use Rattle.ref_forms.specs.declared.kinds.Kind.{Kind}
use Rattle.ref_forms.specs.declared.kinds.Kind.TheVariants as kinds
use Rattle.ref_calls.specs.Words.{operation_named}
use Rattle.ref_calls.specs.declared.words.OperationWord.{OperationWord}
use Rattle.ref_calls.specs.declared.words.OperationWord.TheVariants as words
use Rattle.ref_calls.specs.declared.words.Version.{Version}
use Rattle.ref_plan.specs.Limits.{is_shallow, most_operations}
use Rattle.ref_plan.specs.Named.{who_of}
use Rattle.ref_plan.specs.declared.plans.PlannedOp.{PlannedOp}
use Rattle.ref_plan.specs.declared.plans.PlannedOp.TheVariants.{On, Require, Send}

-- NAME F ARG .., for a reference of this kind
abbrev pub call_said : NamesSeen → Kind → List Edn → Option (ℕ × Action)
call_said names kind xs = then_said (number_said (who_of names) kind) (action_said is_shallow) xs

-- NAME [F ARG ..] [NAME F ARG ..] ..: an action for an agent, with what it carries
abbrev pub send_carry_said : NamesSeen → List Edn → Option (ℕ × Action)
send_carry_said names xs = carrying_said (who_of names) is_shallow xs

-- NAME VALUE
abbrev pub setting_said : NamesSeen → Kind → List Edn → Option (ℕ × Edn)
setting_said names kind xs = two_said (number_said (who_of names) kind) (value_said is_shallow) xs

-- what stands behind the word
abbrev pub op_said : NamesSeen → OperationWord → List Edn → Option PlannedOp
op_said names words.Set xs = option_map (λ s. On s.0 (Set s.1)) (setting_said names kinds.Ref xs)
op_said names words.Alter xs = option_map (λ c. On c.0 (Alter c.1.code c.1.args)) (call_said names kinds.Ref xs)
op_said names words.Commute xs = option_map (λ c. On c.0 (Commute c.1.code c.1.args)) (call_said names kinds.Ref xs)
op_said names words.Ensure xs = option_map (λ r. On r Ensure) (one_said (number_said (who_of names) kinds.Ref) xs)
op_said names words.Require xs = option_map (λ p. Require p.0 p.1) (then_said (number_said (who_of names) kinds.Ref) (rule_said is_shallow) xs)
op_said names words.Send xs = option_map (λ c. Send (record { agent = c.0; action = c.1 })) (call_said names kinds.Agent xs)
op_said names words.SendCarry xs = option_map (λ c. Send (record { agent = c.0; action = c.1 })) (send_carry_said names xs)

-- A word that the version lacks says nothing.
abbrev pub tagged_op : Version → NamesSeen → List ℕ → List Edn → Option PlannedOp
tagged_op version names word xs = option_and_then (λ w. op_said names w xs) (operation_named version word)

abbrev pub op_of : Version → NamesSeen → Edn → Option PlannedOp
op_of version names x = option_and_then (λ t. tagged_op version names t.0 t.1) (tagged_of x)

-- at most 256 operations
abbrev pub ops_said : Version → NamesSeen → List Edn → Option (List PlannedOp)
ops_said version names xs = option_and_then (all_said (op_of version names)) (only_if (nat_le (length xs) most_operations) xs)
