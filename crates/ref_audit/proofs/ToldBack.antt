-- What the calls of a world tell of it is enough for its dump to be read back and to be right.
use Rattle.std.proofs.Common.{◌≡◌, ℕ, suc, ◌+◌, ◌^◌, ◌<◌, ◌≤◌, ◌==◌, ◌&&◌, Bool, true, false, cond, nat_le, List, [], ◌∷◌, length, length-append, get_or, map, Option, None, Some, Result, Ok, Err, refl, sym, ap, ◌∙◌, arith}
use Rattle.std.proofs.lemmas.Bool.Decides.{nat_tests}
use Rattle.std.proofs.lemmas.Option.{slice_get-get_or, slice_get_within}
use Rattle.std.specs.Prelude.{slice_get}
use Rattle.std.specs.List.{list_all}
use Rattle.ref_value.specs.Edn.{Edn, nil}
use Rattle.ref_fun.specs.Core.{core_accepts, core_means}
use Rattle.ref_fun.specs.Rule.{passes}
use Rattle.ref_fun.specs.declared.actions.Action.{Action}
use Rattle.ref_fun.specs.declared.carries.Carry.{Carry}
use Rattle.ref_fun.specs.declared.rules.Rule.{Rule}
use Rattle.ref_fun.specs.Names.{is_function, is_predicate}
use Rattle.ref_log.specs.Guards.{AreAccepted, passes_if_here, rule_at}
use Rattle.std.proofs.Math.ListN.{length-set}
use Rattle.ref_log.specs.Laws.{after_found-Ok, replay-refs, replay_from-Ok}
use Rattle.ref_log.specs.Replay.{after_dones, after_one, done_of, is_set, refs_after, replay_from, sets_atom, state_of, step, with_atoms, with_refs}
use Rattle.ref_log.specs.Tally.{IsMoved, fits_entry, moved_of}
use Rattle.ref_log.specs.declared.counting.Side.TheVariants.{Added, Taken}
use Rattle.ref_log.specs.declared.entries.Entry.{Entry}
use Rattle.ref_log.specs.declared.entries.Entry.TheVariants.{Trans, Atom, MadeRef, MadeAtom}
use Rattle.ref_log.specs.declared.faults.AuditFault.{AuditFault}
use Rattle.ref_log.specs.declared.guards.Guard.{Guard}
use Rattle.ref_log.specs.declared.operations.Done.{Done}
use Rattle.ref_log.specs.declared.operations.Op.{Op}
use Rattle.ref_log.specs.declared.operations.Op.TheVariants as ops
use Rattle.ref_log.specs.declared.sends.Sent.{Sent}
use Rattle.ref_log.specs.declared.states.PlainState.{PlainState}
use Rattle.ref_agents.specs.Agents.{account_at, values_of}
use Rattle.ref_agents.specs.declared.accounts.Handled.{Handled}
use Rattle.ref_agents.specs.declared.accounts.Queued.{Queued}
use Rattle.ref_agents.specs.declared.agents.Agent.{Agent}
use Rattle.ref_world.specs.Seen.{WorldSeen}
use Rattle.ref_world.specs.World.{values_now}
use Rattle.ref_audit.specs.Dumped.{dumped, least, lesser, unnamed, unnamed_code, unnamed_in_action, unnamed_in_agent, unnamed_in_carry, unnamed_in_entry, unnamed_in_handled, unnamed_in_queued, unnamed_in_sent}
use Rattle.ref_verdict.specs.DumpForm.{dump_of}
use Rattle.ref_verdict.specs.OfCore.{is_entry_of_core, is_op_of_core}
use Rattle.ref_audit.specs.OwnDump.{IsSound, IsTold, IsTyped, account_fact, is_reset, is_reset_entry, is_small_account, is_small_action, is_small_args, is_small_carries, is_small_carry, is_small_done, is_small_entry, is_small_handled, is_small_op, is_small_queued, is_small_rule, is_small_sent, is_typed_action, is_typed_agent, is_typed_carries, is_typed_carry, is_typed_done, is_typed_entry, is_typed_handled, is_typed_number, is_typed_op, is_typed_queued, is_typed_rule, is_typed_sent, is_typed_stamp, is_typed_tally, rule_fact}
use Rattle.ref_verdict.specs.Verdict.{verdict_on}
use Rattle.ref_verdict.specs.declared.reports.Verdict.TheVariants as verdicts
use Rattle.ref_audit.proofs.LegalBack.{log_called}
use Rattle.ref_audit.proofs.VerdictBack.{verdict_back}
use Rattle.ref_audit.proofs.WorldBack.{world_back}

pub split : (a b : Bool) → (a && b) ≡ true → (a ≡ true) × (b ≡ true)
split true b e = (refl, e)
split false b e = absurd cc

pub join : (a b : Bool) → a ≡ true → b ≡ true → (a && b) ≡ true
join a b p q = ap (λ x. x && b) p ∙ q

-- what each of two tests say together, all of a list pass
all_join : {X : Type 0} (p q r : X → Bool) → ((x : X) → p x ≡ true → q x ≡ true → r x ≡ true) → (xs : List X) → list_all p xs ≡ true → list_all q xs ≡ true → list_all r xs ≡ true
all_join p q r each [] a b = refl
all_join p q r each (x ∷ xs) a b =
    let s = split (p x) (list_all p xs) a in
    let t = split (q x) (list_all q xs) b in
    join (r x) (list_all r xs) (each x s.0 t.0) (all_join p q r each xs s.1 t.1)

-- ---- names

none_lesser : (a b : Option ℕ) → lesser a b ≡ None → (a ≡ None) × (b ≡ None)
none_lesser None b e = (refl, e)
none_lesser (Some m) None e = absurd cc
none_lesser (Some m) (Some n) e = absurd cc

all_named : {X : Type 0} (number : X → Option ℕ) (test : X → Bool) → ((x : X) → number x ≡ None → test x ≡ true) → (xs : List X) → least number xs ≡ None → list_all test xs ≡ true
all_named number test each [] e = refl
all_named number test each (x ∷ xs) e =
    let p = none_lesser (number x) (least number xs) e in
    join (test x) (list_all test xs) (each x p.0) (all_named number test each xs p.1)

named_by : (b : Bool) (code : ℕ) → cond b None (Some code) ≡ None → b ≡ true
named_by true code e = refl
named_by false code e = absurd cc

named : (code : ℕ) → unnamed_code code ≡ None → is_function code ≡ true
named code e = named_by (is_function code) code e

-- ---- actions

is_named_action : Action → Bool
is_named_action action = is_function action.code && list_all (λ c. is_function c.code) action.carries

action_named : (action : Action) → unnamed_in_action action ≡ None → is_named_action action ≡ true
unfolding is_named_action
action_named action e =
    let p = none_lesser (unnamed_code action.code) (least unnamed_in_carry action.carries) e in
    join (is_function action.code) (list_all (λ c. is_function c.code) action.carries) (named action.code p.0)
    (all_named unnamed_in_carry (λ c. is_function c.code) (λ c n. named c.code n) action.carries p.1)

carry_typed : (c : Carry) → is_small_carry c ≡ true → is_function c.code ≡ true → is_typed_carry c ≡ true
carry_typed c small of =
    let p = split (is_typed_number c.g) (is_small_args c.args) small in
    join (is_typed_number c.g) (is_function c.code && is_small_args c.args) p.0 (join (is_function c.code) (is_small_args c.args) of p.1)

action_typed : (action : Action) → is_small_action action ≡ true → is_named_action action ≡ true → is_typed_action action ≡ true
unfolding is_named_action
action_typed action small of =
    let p = split (is_small_args action.args) (is_small_carries action.carries) small in
    let q = split (nat_le (length action.carries) 8) (list_all is_small_carry action.carries) p.1 in
    let n = split (is_function action.code) (list_all (λ c. is_function c.code) action.carries) of in
    let carries = all_join is_small_carry (λ c. is_function c.code) is_typed_carry carry_typed action.carries q.1 n.1 in
    join (is_function action.code && is_small_args action.args) (is_typed_carries action.carries)
    (join (is_function action.code) (is_small_args action.args) n.0 p.0)
    (join (nat_le (length action.carries) 8) (list_all is_typed_carry action.carries) q.0 carries)

-- ---- entries

is_named_sent : Sent → Bool
is_named_sent s = is_named_action s.action

is_named_entry : Entry → Bool
is_named_entry (Trans t) = list_all is_named_sent t.sends
is_named_entry (Atom a op answer) = true
is_named_entry (MadeRef v) = true
is_named_entry (MadeAtom v) = true

entry_named : (e : Entry) → unnamed_in_entry e ≡ None → is_named_entry e ≡ true
unfolding is_named_entry is_named_sent
entry_named (Trans t) e = all_named unnamed_in_sent is_named_sent (λ s n. action_named s.action n) t.sends e
entry_named (Atom a op answer) e = refl
entry_named (MadeRef v) e = refl
entry_named (MadeAtom v) e = refl

op_typed : (op : Op) → is_small_op op ≡ true → is_op_of_core op ≡ true → is_typed_op op ≡ true
op_typed (ops.Set v) small of = refl
op_typed (ops.Alter code args) small of = join (is_function code) (is_small_args args) (split (is_function code) true of).0 small
op_typed (ops.Commute code args) small of = join (is_function code) (is_small_args args) (split (is_function code) true of).0 small
op_typed ops.Ensure small of = refl

done_typed : (d : Done) → is_small_done d ≡ true → is_op_of_core d.op ≡ true → is_typed_done d ≡ true
done_typed d small of =
    let p = split (is_typed_number d.r) (is_small_op d.op) small in
    join (is_typed_number d.r) (is_typed_op d.op) p.0 (op_typed d.op p.1 of)

sent_typed : (s : Sent) → is_small_sent s ≡ true → is_named_sent s ≡ true → is_typed_sent s ≡ true
unfolding is_named_sent
sent_typed s small of =
    let p = split (is_typed_number s.agent) (is_small_action s.action) small in
    join (is_typed_number s.agent) (is_typed_action s.action) p.0 (action_typed s.action p.1 of)

entry_typed : (e : Entry) → is_small_entry e ≡ true → is_named_entry e ≡ true → is_entry_of_core e ≡ true → is_reset_entry e ≡ true → sets_atom e ≡ true → is_typed_entry e ≡ true
unfolding is_named_entry
entry_typed (Trans t) small names of kept sets =
    let p = split (is_typed_stamp t.stamp) (list_all is_small_done t.dones && list_all is_small_sent t.sends) small in
    let q = split (list_all is_small_done t.dones) (list_all is_small_sent t.sends) p.1 in
    let dones = all_join is_small_done (λ d. is_op_of_core d.op) is_typed_done done_typed t.dones q.0 of in
    let sends = all_join is_small_sent is_named_sent is_typed_sent sent_typed t.sends q.1 names in
    join (is_typed_stamp t.stamp) (list_all is_typed_done t.dones && list_all is_typed_sent t.sends) p.0 (join (list_all is_typed_done t.dones) (list_all is_typed_sent t.sends) dones sends)
entry_typed (Atom a op answer) small names of kept sets =
    let p = split (is_typed_number a) (is_small_op op) small in
    join (is_typed_number a) (is_typed_op op && (is_set op && is_reset op answer)) p.0 (join (is_typed_op op) (is_set op && is_reset op answer) (op_typed op p.1 of) (join (is_set op) (is_reset op answer) sets kept))
entry_typed (MadeRef v) small names of kept sets = refl
entry_typed (MadeAtom v) small names of kept sets = refl

log_typed : (es : List Entry) → list_all is_small_entry es ≡ true → list_all is_named_entry es ≡ true → list_all is_entry_of_core es ≡ true → list_all is_reset_entry es ≡ true → list_all sets_atom es ≡ true → list_all is_typed_entry es ≡ true
log_typed [] a b c d f = refl
log_typed (e ∷ es) a b c d f =
    let s = split (is_small_entry e) (list_all is_small_entry es) a in
    let n = split (is_named_entry e) (list_all is_named_entry es) b in
    let o = split (is_entry_of_core e) (list_all is_entry_of_core es) c in
    let k = split (is_reset_entry e) (list_all is_reset_entry es) d in
    let t = split (sets_atom e) (list_all sets_atom es) f in
    join (is_typed_entry e) (list_all is_typed_entry es) (entry_typed e s.0 n.0 o.0 k.0 t.0) (log_typed es s.1 n.1 o.1 k.1 t.1)

-- ---- agents

handled_typed : (h : Handled) → is_small_handled h ≡ true → is_named_action h.action ≡ true → is_typed_handled h ≡ true
handled_typed h small of = action_typed h.action small of

queued_typed : (q : Queued) → is_small_queued q ≡ true → is_named_action q.action ≡ true → is_typed_queued q ≡ true
queued_typed q small of = action_typed q.action small of

agent_typed : (agent : Agent) → is_small_account agent.account ≡ true → unnamed_in_agent agent ≡ None → is_typed_agent agent ≡ true
agent_typed agent small none =
    let hs = agent.account.handled in
    let qs = agent.account.queue in
    let p = split (list_all is_small_handled hs) (list_all is_small_queued qs) small in
    let n = none_lesser (least unnamed_in_handled hs) (least unnamed_in_queued qs) none in
    let names = all_named unnamed_in_handled (λ (h : Handled). is_named_action h.action) (λ h e. action_named h.action e) hs n.0 in
    let waits = all_named unnamed_in_queued (λ (q : Queued). is_named_action q.action) (λ q e. action_named q.action e) qs n.1 in
    join (list_all is_typed_handled hs) (list_all is_typed_queued qs)
    (all_join is_small_handled (λ (h : Handled). is_named_action h.action) is_typed_handled handled_typed hs p.0 names)
    (all_join is_small_queued (λ (q : Queued). is_named_action q.action) is_typed_queued queued_typed qs p.1 waits)

agents_typed : (agents : List Agent) → ((g : ℕ) → account_fact (account_at agents g) ≡ true) → least unnamed_in_agent agents ≡ None → list_all is_typed_agent agents ≡ true
agents_typed [] facts none = refl
agents_typed (agent ∷ agents) facts none =
    let n = none_lesser (unnamed_in_agent agent) (least unnamed_in_agent agents) none in
    let here : is_small_account agent.account ≡ true = facts 0 in
    let rest : (g : ℕ) → account_fact (account_at agents g) ≡ true = λ g. facts (suc g) in
    join (is_typed_agent agent) (list_all is_typed_agent agents) (agent_typed agent here n.0) (agents_typed agents rest n.1)

-- ---- rules

one_predicate : (k code : ℕ) (b x y : Bool) → (code == k) ≡ b → is_predicate k ≡ true → (y ≡ true → is_predicate code ≡ true) → cond b x y ≡ true → is_predicate code ≡ true
one_predicate k code true x y test is more e = let same : code ≡ k = grind (arith, nat_tests) in ap is_predicate same ∙ is
one_predicate k code false x y test is more e = more e

no_predicate : (code : ℕ) → false ≡ true → is_predicate code ≡ true
no_predicate code e = absurd cc

core_asked : (code : ℕ) (args : List Edn) (v : Edn) → core_accepts code args v ≡ true → is_predicate code ≡ true
unfolding core_accepts
core_asked code args v e =
    one_predicate 101 code (code == 101) _ _ refl refl
    (one_predicate 102 code (code == 102) _ _ refl refl
    (one_predicate 103 code (code == 103) _ _ refl refl
    (one_predicate 104 code (code == 104) _ _ refl refl
    (one_predicate 105 code (code == 105) _ _ refl refl
    (one_predicate 106 code (code == 106) _ _ refl refl
    (one_predicate 107 code (code == 107) _ _ refl refl
    (one_predicate 108 code (code == 108) _ _ refl refl
    (one_predicate 109 code (code == 109) _ _ refl refl
    (no_predicate code))))))))) e

rule_typed : (rule : Option Rule) (v : Edn) → passes core_accepts rule v ≡ true → is_small_rule rule ≡ true → is_typed_rule rule ≡ true
rule_typed None v asked small = refl
rule_typed (Some rule) v asked small = join (is_predicate rule.code) (is_small_args rule.args) (core_asked rule.code rule.args v asked) small

fact_typed : (rule : Option Rule) (there : Option Edn) (v : Edn) → rule_fact there rule ≡ true → there ≡ Some v → is_typed_rule rule ≡ true
fact_typed rule None v fact is = absurd cc
fact_typed rule (Some w) v fact is = let p = split (passes core_accepts rule w) (is_small_rule rule) fact in rule_typed rule w p.0 p.1

rules_typed : (guards : List Guard) (values : List Edn) → ((n : ℕ) → rule_fact (slice_get values n) (rule_at guards n) ≡ true) → (n : ℕ) → n < length values → is_typed_rule (rule_at guards n) ≡ true
rules_typed guards values facts n h =
    fact_typed (rule_at guards n) (slice_get values n) (get_or values n nil) (facts n) (slice_get-get_or values n nil h)

-- every rule accepts
accepted_by : (rule : Option Rule) (there : Option Edn) → rule_fact there rule ≡ true → passes_if_here core_accepts rule there ≡ true
accepted_by rule None fact = refl
accepted_by rule (Some v) fact = (split (passes core_accepts rule v) (is_small_rule rule) fact).0

all_accepted : (guards : List Guard) (values : List Edn) → ((n : ℕ) → rule_fact (slice_get values n) (rule_at guards n) ≡ true) → AreAccepted core_accepts guards values
all_accepted guards values facts n = accepted_by (rule_at guards n) (slice_get values n) (facts n)

-- ---- counts

more_refs : (es : List Entry) (n : ℕ) → n ≤ refs_after n es
more_refs [] n = omega arith
more_refs (Trans t ∷ es) n = more_refs es n
more_refs (Atom a op answer ∷ es) n = more_refs es n
more_refs (MadeRef v ∷ es) n = omega (arith, more_refs es (n + 1))
more_refs (MadeAtom v ∷ es) n = more_refs es n

-- the atoms that a replay ends with, if it does
abbrev atoms_in : Result PlainState AuditFault → List Edn
atoms_in (Ok state) = state.atoms
atoms_in (Err fault) = []

atom_length : (point a : ℕ) (op : Op) (answer : Edn) (values after : List Edn) → after_one core_means false point (done_of a op answer) values ≡ Ok after → length after ≡ length values
atom_length point a op answer values after e =
    let set = after_found-Ok core_means false point (done_of a op answer) values after (slice_get values a) e in
    ap (λ l. length l) set.4 ∙ length-set values a set.1

trans_atoms : (state after : PlainState) (refs : Result (List Edn) AuditFault) → with_refs state refs ≡ Ok after → state.atoms ≡ after.atoms
trans_atoms state after (Ok refs) e = ap atoms_in e
trans_atoms state after (Err fault) e = absurd cc

set_atoms : (state after : PlainState) (atoms : Result (List Edn) AuditFault) → with_atoms state atoms ≡ Ok after → atoms ≡ Ok after.atoms
set_atoms state after (Ok atoms) e = ap (λ r. Ok (atoms_in r)) e
set_atoms state after (Err fault) e = absurd cc

step_atoms : (point : ℕ) (e : Entry) (state after : PlainState) → step core_means point e state ≡ Ok after → length state.atoms ≤ length after.atoms
step_atoms point (Trans t) state after e =
    let same = ap (λ l. length l) (trans_atoms state after (after_dones core_means t.dones point t.dones (Ok state.refs)) e) in
    omega (arith, same)
step_atoms point (Atom a op answer) state after e =
    let same = atom_length point a op answer state.atoms after.atoms (set_atoms state after (after_one core_means false point (done_of a op answer) state.atoms) e) in
    omega (arith, same)
step_atoms point (MadeRef v) state after e =
    let same = ap (λ r. length (atoms_in r)) e in
    omega (arith, same)
step_atoms point (MadeAtom v) state after e =
    let same = ap (λ r. length (atoms_in r)) e in
    let longer = length-append state.atoms (v ∷ []) in
    omega (arith, same, longer)

more_atoms : (point : ℕ) (es : List Entry) (state after : PlainState) → replay_from core_means point es (Ok state) ≡ Ok after → length state.atoms ≤ length after.atoms
more_atoms point [] state after r =
    let same = ap (λ x. length (atoms_in x)) r in
    omega (arith, same)
more_atoms point (e ∷ es) state after r =
    let p = replay_from-Ok core_means (point + 1) es (step core_means (point + 1) e state) after r in
    let rest : replay_from core_means (point + 1) es (Ok p.0) ≡ Ok after = sym (ap (replay_from core_means (point + 1) es) p.1) ∙ r in
    omega (arith, step_atoms (point + 1) e state p.0 p.1, more_atoms (point + 1) es p.0 after rest)

-- ---- the tally

number_typed : (n : ℕ) → n < 2 ^ 32 → is_typed_number n ≡ true
number_typed n h = grind (arith, nat_tests)

tally_typed : (tally : Option ℕ) (values : List Edn) (start added taken : ℕ) → IsMoved tally values start added taken → length values ≤ 2 ^ 20 → is_typed_tally tally ≡ true
tally_typed None values start added taken is few = refl
tally_typed (Some t) values start added taken is few =
    let within : t < length values = slice_get_within values t _ is in
    number_typed t (omega arith)

length_mapped : {X Y : Type 0} (f : X → Y) (xs : List X) → length (map f xs) ≡ length xs
length_mapped f [] = refl
length_mapped f (x ∷ xs) = ap (λ n. suc n) (length_mapped f xs)

-- ---- the whole

pub told_typed : (w : WorldSeen) → IsTold w → unnamed w ≡ None → IsTyped w
told_typed w t none =
    let names = none_lesser (least unnamed_in_entry w.log) (least unnamed_in_agent w.agents.agents) none in
    let called = log_called w.base.point w.log (state_of w.base) (values_now w.refs w.atoms) t.replayed in
    let refs = replay-refs core_means w.base w.log (values_now w.refs w.atoms) t.replayed in
    let grown_refs = more_refs w.log (length w.base.refs) in
    let grown_atoms : length w.base.atoms ≤ length w.atoms.values = more_atoms w.base.point w.log (state_of w.base) (values_now w.refs w.atoms) t.replayed in
    let few_refs : length w.refs.values ≤ 2 ^ 20 = t.few.refs in
    let few_atoms : length w.atoms.values ≤ 2 ^ 20 = t.few.atoms in
    let agents = length_mapped (λ (agent : Agent). agent.value) w.agents.agents in
    record {
      log = log_typed w.log t.log (all_named unnamed_in_entry is_named_entry entry_named w.log names.0) called.0 called.1 t.sets;
      agents = agents_typed w.agents.agents t.accounts names.1;
      ref_rules = rules_typed w.refs.guards w.refs.values t.refs;
      atom_rules = rules_typed w.atoms.guards w.atoms.values t.atoms;
      agent_rules = λ n h. rules_typed w.agents.guards (values_of w.agents.agents) t.agents n (omega (arith, agents, h));
      tally = ap is_typed_tally t.tally ∙ tally_typed w.refs.tally w.refs.values _ _ _ t.counts few_refs;
      lasts = t.lasts;
      few_entries = omega (arith, t.limit);
      few_refs = few_refs;
      few_atoms = few_atoms;
      few_base_refs = omega (arith, refs, grown_refs);
      few_base_atoms = omega (arith, grown_atoms);
    }

pub told_sound : (w : WorldSeen) → IsTold w → IsSound w
told_sound w t = record {
  replayed = t.replayed;
  ref_rules = all_accepted w.refs.guards w.refs.values t.refs;
  atom_rules = all_accepted w.atoms.guards w.atoms.values t.atoms;
  agent_rules = all_accepted w.agents.guards (values_of w.agents.agents) t.agents;
  agents = t.folded;
  commits = t.commits;
  added = t.added ∙ ap (λ tally. w.base.added + moved_of Added tally w.log) (sym t.tally);
  taken = t.taken ∙ ap (λ tally. w.base.taken + moved_of Taken tally w.log) (sym t.tally);
  lawful = ap (λ tally. list_all (fits_entry tally) w.log) t.tally ∙ t.lawful;
}

-- The audit of what was dumped says ok.
pub own_verdict : (w : WorldSeen) → IsTold w → unnamed w ≡ None → verdict_on (dump_of (dumped w)) ≡ Ok verdicts.Ok
own_verdict w t none = ap verdict_on (world_back w (told_typed w t none)) ∙ ap Ok (verdict_back w (told_sound w t))
