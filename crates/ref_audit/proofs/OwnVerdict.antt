-- The audit of a world's own dump.
use Rattle.std.proofs.Common.{◌≡◌, ℕ, ◌+◌, ◌<◌, ◌≤◌, ◌&&◌, Bool, true, refl, List, [], ◌∷◌, length, map, Option, None, Some, Result, Ok, ◌∙◌, ap, arith}
use Rattle.std.specs.List.{enumerate_from, list_all}
use Rattle.std.specs.Option.{option_map, option_or}
use Rattle.ref_value.specs.Edn.{Edn}
use Rattle.ref_fun.specs.declared.rules.Rule.{Rule}
use Rattle.ref_fun.specs.Names.{is_function, is_predicate}
use Rattle.ref_log.specs.Guards.{rule_at}
use Rattle.ref_log.specs.declared.entries.Entry.{Entry}
use Rattle.ref_log.specs.declared.entries.Entry.TheVariants.{Trans, Atom, MadeRef, MadeAtom}
use Rattle.ref_log.specs.declared.guards.Guard.{Guard}
use Rattle.ref_log.specs.declared.operations.Done.{Done}
use Rattle.ref_log.specs.declared.operations.Op.{Op}
use Rattle.ref_log.specs.declared.operations.Op.TheVariants as ops
use Rattle.ref_agents.specs.declared.accounts.Handled.{Handled}
use Rattle.ref_agents.specs.declared.agents.Agent.{Agent}
use Rattle.ref_world.specs.Seen.{WorldSeen}
use Rattle.ref_audit.specs.Dumped.{depth_refusal, dump_refusal, dumped, unnamed, unnamed_refusal}
use Rattle.ref_verdict.specs.DumpForm.{dump_of}
use Rattle.ref_verdict.specs.OfCore.{IsOfCore, is_account_of_core, is_agent_rule_of_core, is_entry_of_core, is_handled_of_core, is_kept_of_core, is_op_of_core, is_rule_of_core}
use Rattle.ref_audit.specs.OwnDump.{IsTold, IsTyped, agent_seen, dump_seen, is_typed_agent, is_typed_args, is_typed_carries, is_typed_done, is_typed_entry, is_typed_handled, is_typed_number, is_typed_op, is_typed_queued, is_typed_rule, is_typed_sent, is_typed_stamp, kept_seen}
use Rattle.ref_verdict.specs.Verdict.{verdict, verdict_on}
use Rattle.ref_audit.specs.declared.faults.DumpMakeFault.{DumpMakeFault}
use Rattle.ref_audit.specs.declared.faults.DumpMakeFault.TheVariants as makes
use Rattle.ref_verdict.specs.declared.reading.faults.DumpFault.{DumpFault}
use Rattle.ref_verdict.specs.declared.reports.Verdict.{Verdict}
use Rattle.ref_verdict.specs.declared.reports.Verdict.TheVariants as verdicts
use Rattle.ref_audit.proofs.ToldBack.{join, own_verdict, split, told_sound, told_typed}
use Rattle.ref_audit.proofs.VerdictBack.{verdict_back}

first_none : (a b : Option DumpMakeFault) → option_or a b ≡ None → a ≡ None
first_none None b e = refl
first_none (Some x) b e = absurd cc

map_none : (o : Option ℕ) → option_map makes.Unnamed o ≡ None → o ≡ None
map_none None e = refl
map_none (Some n) e = absurd cc

-- a world that is dumped names no other functions
pub named_all : (w : WorldSeen) → dump_refusal w ≡ None → unnamed w ≡ None
named_all w e = map_none (unnamed w) (first_none (unnamed_refusal w) (depth_refusal (dumped w)) e)

pub own_ok : (w : WorldSeen) → IsTold w → dump_refusal w ≡ None → verdict_on (dump_of (dumped w)) ≡ Ok verdicts.Ok
own_ok w told fine = own_verdict w told (named_all w fine)

-- ---- what a world's dump says names functions and predicates of Core alone

weaker : {X : Type 0} (p q : X → Bool) → ((x : X) → p x ≡ true → q x ≡ true) → (xs : List X) → list_all p xs ≡ true → list_all q xs ≡ true
weaker p q each [] all = refl
weaker p q each (x ∷ xs) all =
    let s = split (p x) (list_all p xs) all in
    join (q x) (list_all q xs) (each x s.0) (weaker p q each xs s.1)

op_core : (op : Op) → is_typed_op op ≡ true → is_op_of_core op ≡ true
op_core (ops.Set v) typed = refl
op_core (ops.Alter code args) typed = join (is_function code) true (split (is_function code) (is_typed_args args) typed).0 refl
op_core (ops.Commute code args) typed = join (is_function code) true (split (is_function code) (is_typed_args args) typed).0 refl
op_core ops.Ensure typed = refl

done_core : (d : Done) → is_typed_done d ≡ true → is_op_of_core d.op ≡ true
done_core d typed = op_core d.op (split (is_typed_number d.r) (is_typed_op d.op) typed).1

entry_core : (e : Entry) → is_typed_entry e ≡ true → is_entry_of_core e ≡ true
entry_core (Trans t) typed =
    let p = split (is_typed_stamp t.stamp) (list_all is_typed_done t.dones && list_all is_typed_sent t.sends) typed in
    let q = split (list_all is_typed_done t.dones) (list_all is_typed_sent t.sends) p.1 in
    weaker is_typed_done (λ d. is_op_of_core d.op) done_core t.dones q.0
entry_core (Atom a op answer) typed =
    let p = split (is_typed_number a) _ typed in
    op_core op (split (is_typed_op op) _ p.1).0
entry_core (MadeRef v) typed = refl
entry_core (MadeAtom v) typed = refl

rule_core : (rule : Option Rule) → is_typed_rule rule ≡ true → is_rule_of_core rule ≡ true
rule_core None typed = refl
rule_core (Some rule) typed = (split (is_predicate rule.code) (is_typed_args rule.args) typed).0

kept_core : (guards : List Guard) (n : ℕ) (values : List Edn) → ((m : ℕ) → n ≤ m → m < n + length values → is_typed_rule (rule_at guards m) ≡ true) → list_all is_kept_of_core (map (kept_seen guards) (enumerate_from n values)) ≡ true
kept_core guards n [] typed = refl
kept_core guards n (v ∷ values) typed =
    join (is_rule_of_core (rule_at guards n)) _ (rule_core (rule_at guards n) (typed n (omega arith) (omega arith)))
    (kept_core guards (n + 1) values (λ m low high. typed m (omega arith) (omega arith)))

agent_rules_core : (guards : List Guard) (n : ℕ) (agents : List Agent) → ((m : ℕ) → n ≤ m → m < n + length agents → is_typed_rule (rule_at guards m) ≡ true) → list_all is_agent_rule_of_core (map (agent_seen guards) (enumerate_from n agents)) ≡ true
agent_rules_core guards n [] typed = refl
agent_rules_core guards n (agent ∷ agents) typed =
    join (is_rule_of_core (rule_at guards n)) _ (rule_core (rule_at guards n) (typed n (omega arith) (omega arith)))
    (agent_rules_core guards (n + 1) agents (λ m low high. typed m (omega arith) (omega arith)))

handled_core : (h : Handled) → is_typed_handled h ≡ true → is_handled_of_core h ≡ true
handled_core h typed =
    let p = split (is_function h.action.code && is_typed_args h.action.args) (is_typed_carries h.action.carries) typed in
    (split (is_function h.action.code) (is_typed_args h.action.args) p.0).0

accounts_core : (guards : List Guard) (n : ℕ) (agents : List Agent) → list_all is_typed_agent agents ≡ true → list_all is_account_of_core (map (agent_seen guards) (enumerate_from n agents)) ≡ true
accounts_core guards n [] typed = refl
accounts_core guards n (agent ∷ agents) typed =
    let p = split (is_typed_agent agent) (list_all is_typed_agent agents) typed in
    let q = split (list_all is_typed_handled agent.account.handled) (list_all is_typed_queued agent.account.queue) p.0 in
    join (list_all is_handled_of_core agent.account.handled) _ (weaker is_typed_handled is_handled_of_core handled_core agent.account.handled q.0) (accounts_core guards (n + 1) agents p.1)

typed_core : (w : WorldSeen) → IsTyped w → IsOfCore (dump_seen w)
typed_core w t = record {
  entries = weaker is_typed_entry is_entry_of_core entry_core w.log t.log;
  refs = kept_core w.refs.guards 0 w.refs.values (λ m low high. t.ref_rules m (omega arith));
  atoms = kept_core w.atoms.guards 0 w.atoms.values (λ m low high. t.atom_rules m (omega arith));
  rules = agent_rules_core w.agents.guards 0 w.agents.agents (λ m low high. t.agent_rules m (omega arith));
  accounts = accounts_core w.agents.guards 0 w.agents.agents t.agents;
}

-- ---- the audit of what the dump says

pub seen_core : (w : WorldSeen) → IsTold w → unnamed w ≡ None → IsOfCore (dump_seen w)
seen_core w told none = typed_core w (told_typed w told none)

pub seen_ok : (w : WorldSeen) → IsTold w → verdict (dump_seen w) ≡ verdicts.Ok
seen_ok w told = verdict_back w (told_sound w told)
