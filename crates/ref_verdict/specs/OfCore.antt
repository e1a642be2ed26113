-- Which dumps name functions and predicates of Core alone, as all do that are read.
use Rattle.std.specs.Prelude.{◌≡◌, Bool, true, Option, None, Some}
use Rattle.std.specs.List.{list_all}
use Rattle.ref_fun.specs.declared.rules.Rule.{Rule}
use Rattle.ref_fun.specs.Names.{is_function, is_predicate}
use Rattle.ref_log.specs.Replay.{codes_of}
use Rattle.ref_log.specs.declared.entries.Entry.{Entry}
use Rattle.ref_log.specs.declared.entries.Entry.TheVariants.{Trans, Atom, MadeRef, MadeAtom}
use Rattle.ref_log.specs.declared.operations.Op.{Op}
use Rattle.ref_agents.specs.declared.accounts.Handled.{Handled}
use Rattle.ref_verdict.specs.declared.reading.dumps.Dump.{Dump}
use Rattle.ref_verdict.specs.declared.reading.dumps.Kept.{Kept}
use Rattle.ref_verdict.specs.declared.reading.dumps.KeptAgent.{KeptAgent}

abbrev pub is_op_of_core : Op → Bool
is_op_of_core op = list_all is_function (codes_of op)

abbrev pub is_entry_of_core : Entry → Bool
is_entry_of_core (Trans t) = list_all (λ d. is_op_of_core d.op) t.dones
is_entry_of_core (Atom a op answer) = is_op_of_core op
is_entry_of_core (MadeRef v) = true
is_entry_of_core (MadeAtom v) = true

abbrev pub is_rule_of_core : Option Rule → Bool
is_rule_of_core None = true
is_rule_of_core (Some rule) = is_predicate rule.code

abbrev pub is_kept_of_core : Kept → Bool
is_kept_of_core kept = is_rule_of_core kept.rule

abbrev pub is_handled_of_core : Handled → Bool
is_handled_of_core h = is_function h.action.code

abbrev pub is_agent_rule_of_core : KeptAgent → Bool
is_agent_rule_of_core agent = is_rule_of_core agent.rule

abbrev pub is_account_of_core : KeptAgent → Bool
is_account_of_core agent = list_all is_handled_of_core agent.handled

pub record IsOfCore (dump : Dump) : Type 0 where
  pub entries : list_all is_entry_of_core dump.entries ≡ true
  pub refs : list_all is_kept_of_core dump.refs ≡ true
  pub atoms : list_all is_kept_of_core dump.atoms ≡ true
  pub rules : list_all is_agent_rule_of_core dump.agents ≡ true
  pub accounts : list_all is_account_of_core dump.agents ≡ true
