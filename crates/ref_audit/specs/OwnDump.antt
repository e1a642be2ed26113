-- What the types of a world's parts say of its numbers and arguments, and what is dumped of it.
use Rattle.std.specs.Prelude.{ℕ, ◌^◌, ◌&&◌, nat_le, nat_lt, ◌≡◌, ◌<◌, ◌+◌, ◌≤◌, Bool, true, is_some, List, length, map, slice_get, Option, None, Some}
use Rattle.std.specs.List.{enumerate_from}
use Rattle.std.specs.List.{list_all}
use Rattle.std.specs.Ordering.{eq_by_cmp}
use Rattle.ref_value.specs.Edn.{Edn}
use Rattle.ref_value.specs.Order.{edn_cmp}
use Rattle.ref_log.specs.Replay.{is_set, sets_atom}
use Rattle.ref_log.specs.declared.entries.Stamp.{Stamp}
use Rattle.ref_log.specs.declared.entries.Transaction.{Transaction}
use Rattle.ref_agents.specs.Account.{AccountSeen}
use Rattle.ref_fun.specs.Rule.{passes}
use Rattle.ref_fun.specs.declared.actions.Action.{Action}
use Rattle.ref_fun.specs.declared.carries.Carry.{Carry}
use Rattle.ref_fun.specs.declared.rules.Rule.{Rule}
use Rattle.ref_log.specs.declared.entries.Entry.{Entry}
use Rattle.ref_log.specs.declared.entries.Entry.TheVariants.{Trans, Atom, MadeRef, MadeAtom}
use Rattle.ref_log.specs.declared.operations.Done.{Done}
use Rattle.ref_log.specs.declared.operations.Op.{Op}
use Rattle.ref_log.specs.declared.operations.Op.TheVariants.{Set, Alter, Commute, Ensure}
use Rattle.ref_log.specs.declared.sends.Sent.{Sent}
use Rattle.ref_agents.specs.declared.accounts.Handled.{Handled}
use Rattle.ref_agents.specs.declared.accounts.Queued.{Queued}
use Rattle.ref_agents.specs.declared.agents.Agent.{Agent}
use Rattle.ref_log.specs.Guards.{rule_at}
use Rattle.ref_log.specs.declared.guards.Guard.{Guard}
use Rattle.ref_fun.specs.Core.{core_accepts, core_means}
use Rattle.ref_fun.specs.Names.{is_function, is_predicate}
use Rattle.ref_log.specs.Guards.{AreAccepted}
use Rattle.ref_log.specs.Tally.{IsMoved, commits_of, fits_entry, moved_of}
use Rattle.ref_log.specs.declared.counting.Side.TheVariants.{Added, Taken}
use Rattle.ref_agents.specs.Agents as stores
use Rattle.ref_agents.specs.Agents.{AreAgents, account_at}
use Rattle.ref_world.specs.Seen.{WorldSeen}
use Rattle.ref_world.specs.World.{IsReplayed, point_of}
use Rattle.ref_audit.specs.Made.{AreFew}
use Rattle.ref_verdict.specs.declared.reading.dumps.Dump.{Dump}
use Rattle.ref_verdict.specs.declared.reading.dumps.Version.TheVariants.{Three}
use Rattle.ref_verdict.specs.declared.reading.dumps.Kept.{Kept}
use Rattle.ref_verdict.specs.declared.reading.dumps.KeptAgent.{KeptAgent}
use Rattle.ref_log.specs.Limits.{last_point, most_entries, most_references}

-- a number of 32 bits
abbrev pub is_typed_number : ℕ → Bool
is_typed_number n = nat_lt n (2 ^ 32)

abbrev pub is_typed_args : List Edn → Bool
is_typed_args args = nat_le (length args) 8

abbrev pub is_typed_carry : Carry → Bool
is_typed_carry c = is_typed_number c.g && (is_function c.code && is_typed_args c.args)

abbrev pub is_typed_carries : List Carry → Bool
is_typed_carries carries = nat_le (length carries) 8 && list_all is_typed_carry carries

abbrev pub is_typed_action : Action → Bool
is_typed_action action = (is_function action.code && is_typed_args action.args) && is_typed_carries action.carries

abbrev pub is_typed_rule : Option Rule → Bool
is_typed_rule None = true
is_typed_rule (Some rule) = is_predicate rule.code && is_typed_args rule.args

abbrev pub is_typed_op : Op → Bool
is_typed_op (Set v) = true
is_typed_op (Alter code args) = is_function code && is_typed_args args
is_typed_op (Commute code args) = is_function code && is_typed_args args
is_typed_op Ensure = true

abbrev pub is_typed_done : Done → Bool
is_typed_done d = is_typed_number d.r && is_typed_op d.op

abbrev pub is_typed_sent : Sent → Bool
is_typed_sent s = is_typed_number s.agent && is_typed_action s.action

abbrev pub is_typed_handled : Handled → Bool
is_typed_handled h = is_typed_action h.action

abbrev pub is_typed_queued : Queued → Bool
is_typed_queued q = is_typed_action q.action

abbrev pub is_typed_stamp : Stamp → Bool
is_typed_stamp stamp = is_typed_number stamp.worker && is_typed_number stamp.step

-- `reset!` answers what it sets.
abbrev pub is_reset : Op → Edn → Bool
is_reset (Set v) answer = eq_by_cmp edn_cmp v answer
is_reset (Alter code args) answer = true
is_reset (Commute code args) answer = true
is_reset Ensure answer = true

abbrev pub is_reset_entry : Entry → Bool
is_reset_entry (Trans t) = true
is_reset_entry (Atom a op answer) = is_reset op answer
is_reset_entry (MadeRef v) = true
is_reset_entry (MadeAtom v) = true

abbrev pub is_typed_entry : Entry → Bool
is_typed_entry (Trans t) = is_typed_stamp t.stamp && (list_all is_typed_done t.dones && list_all is_typed_sent t.sends)
is_typed_entry (Atom a op answer) = is_typed_number a && (is_typed_op op && (is_set op && is_reset op answer))
is_typed_entry (MadeRef v) = true
is_typed_entry (MadeAtom v) = true

abbrev pub is_typed_agent : Agent → Bool
is_typed_agent agent = list_all is_typed_handled agent.account.handled && list_all is_typed_queued agent.account.queue

abbrev pub is_typed_tally : Option ℕ → Bool
is_typed_tally None = true
is_typed_tally (Some t) = is_typed_number t

-- ---- the same without names of functions

abbrev pub is_small_args : List Edn → Bool
is_small_args args = nat_le (length args) 8

abbrev pub is_small_op : Op → Bool
is_small_op (Set v) = true
is_small_op (Alter code args) = is_small_args args
is_small_op (Commute code args) = is_small_args args
is_small_op Ensure = true

abbrev pub is_small_done : Done → Bool
is_small_done d = is_typed_number d.r && is_small_op d.op

abbrev pub is_small_carry : Carry → Bool
is_small_carry c = is_typed_number c.g && is_small_args c.args

abbrev pub is_small_carries : List Carry → Bool
is_small_carries carries = nat_le (length carries) 8 && list_all is_small_carry carries

abbrev pub is_small_action : Action → Bool
is_small_action action = is_small_args action.args && is_small_carries action.carries

abbrev pub is_small_sent : Sent → Bool
is_small_sent s = is_typed_number s.agent && is_small_action s.action

abbrev pub is_small_transaction : Transaction → Bool
is_small_transaction t = is_typed_stamp t.stamp && (list_all is_small_done t.dones && list_all is_small_sent t.sends)

abbrev pub is_small_atom : ℕ → Op → Bool
is_small_atom a op = is_typed_number a && is_small_op op

abbrev pub is_small_entry : Entry → Bool
is_small_entry (Trans t) = is_small_transaction t
is_small_entry (Atom a op answer) = is_small_atom a op
is_small_entry (MadeRef v) = true
is_small_entry (MadeAtom v) = true

abbrev pub is_small_handled : Handled → Bool
is_small_handled h = is_small_action h.action

abbrev pub is_small_queued : Queued → Bool
is_small_queued q = is_small_action q.action

abbrev pub is_small_account : AccountSeen → Bool
is_small_account account = list_all is_small_handled account.handled && list_all is_small_queued account.queue

-- of an agent's account, if the agent is here
abbrev pub account_fact : Option AccountSeen → Bool
account_fact None = true
account_fact (Some account) = is_small_account account

abbrev pub is_small_rule : Option Rule → Bool
is_small_rule None = true
is_small_rule (Some rule) = is_small_args rule.args

-- of a reference's rule, if the reference is here: it accepts the value
abbrev pub rule_fact : Option Edn → Option Rule → Bool
rule_fact None rule = true
rule_fact (Some v) rule = passes core_accepts rule v && is_small_rule rule

-- What the types of a world's parts say of it.
pub record IsTyped (w : WorldSeen) : Type 0 where
  pub log : list_all is_typed_entry w.log ≡ true
  pub agents : list_all is_typed_agent w.agents.agents ≡ true
  pub ref_rules : (n : ℕ) → n < length w.refs.values → is_typed_rule (rule_at w.refs.guards n) ≡ true
  pub atom_rules : (n : ℕ) → n < length w.atoms.values → is_typed_rule (rule_at w.atoms.guards n) ≡ true
  pub agent_rules : (n : ℕ) → n < length w.agents.agents → is_typed_rule (rule_at w.agents.guards n) ≡ true
  pub tally : is_typed_tally w.base.tally ≡ true
  pub lasts : length w.base.last ≡ length w.base.refs
  pub few_entries : length w.log ≤ most_entries
  pub few_refs : length w.refs.values ≤ most_references
  pub few_atoms : length w.atoms.values ≤ most_references
  pub few_base_refs : length w.base.refs ≤ most_references
  pub few_base_atoms : length w.base.atoms ≤ most_references

-- ---- what is dumped

abbrev pub kept_seen : List Guard → ℕ × Edn → Kept
kept_seen guards e = record { value = e.1; rule = rule_at guards e.0 }

abbrev pub agent_seen : List Guard → ℕ × Agent → KeptAgent
agent_seen guards e = record {
  start = e.1.account.start;
  handled = e.1.account.handled;
  queue = map (λ q. q.action) e.1.account.queue;
  value = e.1.value;
  failed = is_some e.1.error;
  rule = rule_at guards e.0;
}

abbrev pub kepts_seen : List Guard → List Edn → List Kept
kepts_seen guards values = map (kept_seen guards) (enumerate_from 0 values)

abbrev pub agents_seen : List Guard → List Agent → List KeptAgent
agents_seen guards agents = map (agent_seen guards) (enumerate_from 0 agents)

-- what a world's dump says
abbrev pub dump_seen : WorldSeen → Dump
dump_seen w = record {
  version = Three;
  base = w.base;
  entries = w.log;
  refs = kepts_seen w.refs.guards w.refs.values;
  atoms = kepts_seen w.atoms.guards w.atoms.values;
  agents = agents_seen w.agents.guards w.agents.agents;
  commits = w.books.commits;
  added = w.books.added;
  taken = w.books.taken;
}

-- What is always so in a world of Core's functions.
pub record IsSound (w : WorldSeen) : Type 0 where
  pub replayed : IsReplayed core_means w.base w.log w.refs w.atoms
  pub ref_rules : AreAccepted core_accepts w.refs.guards w.refs.values
  pub atom_rules : AreAccepted core_accepts w.atoms.guards w.atoms.values
  pub agent_rules : AreAccepted core_accepts w.agents.guards (stores.values_of w.agents.agents)
  pub agents : AreAgents core_means w.agents.agents
  pub commits : w.books.commits ≡ w.base.commits + commits_of w.log
  pub added : w.books.added ≡ w.base.added + moved_of Added w.base.tally w.log
  pub taken : w.books.taken ≡ w.base.taken + moved_of Taken w.base.tally w.log
  pub lawful : list_all (fits_entry w.base.tally) w.log ≡ true

-- What the calls of a world guarantee of it: what is always so, and what the types of its parts say.
pub record IsTold (w : WorldSeen) : Type 0 where
  pub log : list_all is_small_entry w.log ≡ true
  pub accounts : (g : ℕ) → account_fact (account_at w.agents.agents g) ≡ true
  pub refs : (n : ℕ) → rule_fact (slice_get w.refs.values n) (rule_at w.refs.guards n) ≡ true
  pub atoms : (n : ℕ) → rule_fact (slice_get w.atoms.values n) (rule_at w.atoms.guards n) ≡ true
  pub agents : (n : ℕ) → rule_fact (slice_get (stores.values_of w.agents.agents) n) (rule_at w.agents.guards n) ≡ true
  pub replayed : IsReplayed core_means w.base w.log w.refs w.atoms
  pub sets : list_all sets_atom w.log ≡ true
  pub folded : AreAgents core_means w.agents.agents
  pub tally : w.base.tally ≡ w.refs.tally
  pub limit : point_of w ≤ last_point
  pub lasts : length w.base.last ≡ length w.base.refs
  pub few : AreFew w
  pub commits : w.books.commits ≡ w.base.commits + commits_of w.log
  pub added : w.books.added ≡ w.base.added + moved_of Added w.refs.tally w.log
  pub taken : w.books.taken ≡ w.base.taken + moved_of Taken w.refs.tally w.log
  pub lawful : list_all (fits_entry w.refs.tally) w.log ≡ true
  pub counts : IsMoved w.refs.tally w.refs.values w.books.start w.books.added w.books.taken
