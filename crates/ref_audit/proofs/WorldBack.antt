-- What a world's dump says is what was dumped.
use Rattle.std.proofs.Common.{◌≡◌, ℕ, suc, ◌+◌, ◌-◌, ◌^◌, ◌<◌, ◌≤◌, ◌&&◌, Bool, true, false, List, [], ◌∷◌, length, map, Option, None, Some, Ok, refl, ap, ◌∙◌, arith, is_some}
use Rattle.std.specs.Prelude.{option_and_then}
use Rattle.std.specs.List.{enumerate_from, list_all, zip}
use Rattle.ref_value.specs.Edn.{Edn, keyword}
use Rattle.ref_log.specs.Guards.{rule_at}
use Rattle.ref_log.specs.declared.entries.Entry.{Entry}
use Rattle.ref_log.specs.declared.guards.Guard.{Guard}
use Rattle.ref_log.specs.declared.states.Base.{Base}
use Rattle.ref_agents.specs.declared.accounts.Handled.{Handled}
use Rattle.ref_agents.specs.declared.accounts.Queued.{Queued}
use Rattle.ref_agents.specs.declared.agents.Agent.{Agent}
use Rattle.ref_world.specs.Seen.{WorldSeen}
use Rattle.ref_audit.specs.Dumped.{agent_form, agents_form, base_ref_form, base_refs_form, dumped, entry_form, handled_form, queued_form, status_word, tally_form, value_form, values_form}
use Rattle.ref_forms.specs.Plain.{all_said, are_known, elements_within, list_said}
use Rattle.ref_verdict.specs.DumpForm.{agent_of, changed_of, dump_of, handled_of, has_keys, kept_of, queued_of, status_of, tally_of, values_said}
use Rattle.ref_audit.specs.OwnDump.{IsTyped, agent_seen, agents_seen, dump_seen, is_typed_agent, is_typed_handled, is_typed_queued, is_typed_rule, is_typed_tally, kept_seen, kepts_seen}
use Rattle.ref_verdict.specs.Words.{vector_form}
use Rattle.ref_verdict.specs.declared.reading.dumps.Changed.{Changed}
use Rattle.ref_verdict.specs.declared.reading.dumps.Version.TheVariants.{Three}
use Rattle.ref_audit.proofs.FormsBack.{all_back, clamp_back, entries_back, handled_back, length_map, list_back, queued_back, rule_back, same_list, within_back}

split : (a b : Bool) → (a && b) ≡ true → (a ≡ true) × (b ≡ true)
split true b e = (refl, e)
split false b e = absurd cc

every : {X : Type 0} (test : X → Bool) (each : (x : X) → test x ≡ true) (xs : List X) → list_all test xs ≡ true
every test each [] = refl
every test each (x ∷ xs) = ap (λ b. b && list_all test xs) (each x) ∙ every test each xs

-- a test of the number alone
every_below : {X : Type 0} (test : ℕ → Bool) (m : ℕ) (xs : List X) → ((k : ℕ) → m ≤ k → k < m + length xs → test k ≡ true) → list_all (λ e. test e.0) (enumerate_from m xs) ≡ true
every_below test m [] each = refl
every_below test m (x ∷ xs) each =
    let here : test m ≡ true = each m (omega arith) (omega arith) in
    ap (λ b. b && list_all (λ e. test e.0) (enumerate_from (m + 1) xs)) here ∙ every_below test (m + 1) xs (λ k low high. each k (omega arith) (omega arith))

length_enumerated : {X : Type 0} (n : ℕ) (xs : List X) → length (enumerate_from n xs) ≡ length xs
length_enumerated n [] = refl
length_enumerated n (x ∷ xs) = ap (λ m. suc m) (length_enumerated (n + 1) xs)

-- ---- values and rules

value_back : (guards : List Guard) (e : ℕ × Edn) → is_typed_rule (rule_at guards e.0) ≡ true → kept_of (value_form guards e) ≡ Some (kept_seen guards e)
value_back guards e typed = rw (rule_back (rule_at guards e.0) typed) refl

pub values_back : (guards : List Guard) (values : List Edn) → ((n : ℕ) → n < length values → is_typed_rule (rule_at guards n) ≡ true) → length values ≤ 2 ^ 20 → values_said kept_of (values_form guards values) ≡ Some (kepts_seen guards values)
values_back guards values typed few =
    let forms = map (value_form guards) (enumerate_from 0 values) in
    let count : length forms ≡ length values = length_map (value_form guards) (enumerate_from 0 values) ∙ length_enumerated 0 values in
    let fits : length forms ≤ 2 ^ 32 - 2 = omega arith in
    ap (option_and_then (all_said kept_of)) (within_back (2 ^ 32 - 2) forms fits)
    ∙ all_back kept_of (value_form guards) (kept_seen guards) (λ e. is_typed_rule (rule_at guards e.0)) (value_back guards) (enumerate_from 0 values) (every_below (λ n. is_typed_rule (rule_at guards n)) 0 values (λ k low high. typed k (omega arith)))

-- ---- agents

status_back : (failed : Bool) → status_of (keyword (status_word failed)) ≡ Some failed
status_back true = refl
status_back false = refl

handleds_back : (hs : List Handled) → list_all is_typed_handled hs ≡ true → list_said (handled_of Three) (vector_form (map handled_form hs)) ≡ Some hs
handleds_back hs typed = list_back (handled_of Three) handled_form (λ h. h) is_typed_handled handled_back hs typed ∙ ap Some (same_list hs)

queue_back : (qs : List Queued) → list_all is_typed_queued qs ≡ true → list_said (queued_of Three) (vector_form (map queued_form qs)) ≡ Some (map (λ q. q.action) qs)
queue_back qs typed = list_back (queued_of Three) queued_form (λ q. q.action) is_typed_queued queued_back qs typed

agent_back : (guards : List Guard) (e : ℕ × Agent) → (is_typed_agent e.1 && is_typed_rule (rule_at guards e.0)) ≡ true → agent_of Three (agent_form guards e) ≡ Some (agent_seen guards e)
agent_back guards e typed =
    let p = split (is_typed_agent e.1) (is_typed_rule (rule_at guards e.0)) typed in
    let q = split (list_all is_typed_handled e.1.account.handled) (list_all is_typed_queued e.1.account.queue) p.0 in
    rw (handleds_back e.1.account.handled q.0, queue_back e.1.account.queue q.1, status_back (is_some e.1.error), rule_back (rule_at guards e.0) p.1) refl

typed_agents : (guards : List Guard) (n : ℕ) (agents : List Agent) → ((m : ℕ) → n ≤ m → m < n + length agents → is_typed_rule (rule_at guards m) ≡ true) → list_all is_typed_agent agents ≡ true → list_all (λ e. is_typed_agent e.1 && is_typed_rule (rule_at guards e.0)) (enumerate_from n agents) ≡ true
typed_agents guards n [] rules typed = refl
typed_agents guards n (agent ∷ agents) rules typed =
    let p = split (is_typed_agent agent) (list_all is_typed_agent agents) typed in
    let here : is_typed_rule (rule_at guards n) ≡ true = rules n (omega arith) (omega arith) in
    rw (p.0, here, typed_agents guards (n + 1) agents (λ m low high. rules m (omega arith) (omega arith)) p.1) refl

pub agents_back : (guards : List Guard) (agents : List Agent) → ((m : ℕ) → m < length agents → is_typed_rule (rule_at guards m) ≡ true) → list_all is_typed_agent agents ≡ true → list_said (agent_of Three) (agents_form guards agents) ≡ Some (agents_seen guards agents)
agents_back guards agents rules typed = list_back (agent_of Three) (agent_form guards) (agent_seen guards) (λ e. is_typed_agent e.1 && is_typed_rule (rule_at guards e.0)) (agent_back guards) (enumerate_from 0 agents) (typed_agents guards 0 agents (λ m low high. rules m (omega arith)) typed)

-- ---- the base

changed_seen : Edn × ℕ → Changed
changed_seen e = record { value = e.0; last = e.1 }

changed_back : (e : Edn × ℕ) → true ≡ true → changed_of (base_ref_form e) ≡ Some (changed_seen e)
unfolding changed_seen
changed_back e typed = refl

zip_values : (vs : List Edn) (ls : List ℕ) → length ls ≡ length vs → map (λ c. c.value) (map changed_seen (zip vs ls)) ≡ vs
unfolding changed_seen
zip_values [] ls e = refl
zip_values (v ∷ vs) [] e = absurd (omega arith)
zip_values (v ∷ vs) (l ∷ ls) e = ap (λ xs. v ∷ xs) (zip_values vs ls (omega arith))

zip_lasts : (vs : List Edn) (ls : List ℕ) → length ls ≡ length vs → map (λ c. c.last) (map changed_seen (zip vs ls)) ≡ ls
unfolding changed_seen
zip_lasts [] [] e = refl
zip_lasts [] (l ∷ ls) e = absurd (omega arith)
zip_lasts (v ∷ vs) [] e = absurd (omega arith)
zip_lasts (v ∷ vs) (l ∷ ls) e = ap (λ xs. l ∷ xs) (zip_lasts vs ls (omega arith))

zip_length : (vs : List Edn) (ls : List ℕ) → length (zip vs ls) ≤ length vs
zip_length [] ls = omega arith
zip_length (v ∷ vs) [] = omega arith
zip_length (v ∷ vs) (l ∷ ls) = omega (arith, zip_length vs ls)

base_refs_back : (base : Base) → length base.refs ≤ 2 ^ 20 → values_said changed_of (base_refs_form base) ≡ Some (map changed_seen (zip base.refs base.last))
base_refs_back base few =
    let pairs = zip base.refs base.last in
    let forms = map base_ref_form pairs in
    let count : length forms ≡ length pairs = length_map base_ref_form pairs in
    let fits : length forms ≤ 2 ^ 32 - 2 = omega (arith, zip_length base.refs base.last) in
    ap (option_and_then (all_said changed_of)) (within_back (2 ^ 32 - 2) forms fits)
    ∙ all_back changed_of base_ref_form changed_seen (λ e. true) changed_back pairs (every (λ (e : Edn × ℕ). true) (λ e. refl) pairs)

all_some : (xs : List Edn) → all_said Some xs ≡ Some xs
all_some [] = refl
all_some (x ∷ xs) = rw (all_some xs) refl

atoms_back : (xs : List Edn) → length xs ≤ 2 ^ 20 → values_said Some (vector_form xs) ≡ Some xs
atoms_back xs few =
    let fits : length xs ≤ 2 ^ 32 - 2 = omega arith in
    ap (option_and_then (all_said Some)) (within_back (2 ^ 32 - 2) xs fits) ∙ all_some xs

tally_back : (tally : Option ℕ) → is_typed_tally tally ≡ true → tally_of (tally_form tally) ≡ Some tally
tally_back None typed = refl
tally_back (Some t) typed = rw (clamp_back t typed) refl

forms_back : (es : List Entry) → length es ≤ 2 ^ 62 → elements_within (2 ^ 62) (vector_form (map entry_form es)) ≡ Some (map entry_form es)
forms_back es few =
    let count : length (map entry_form es) ≡ length es = length_map entry_form es in
    let fits : length (map entry_form es) ≤ 2 ^ 62 = omega arith in
    within_back (2 ^ 62) (map entry_form es) fits

-- ---- all of it

pub world_back : (w : WorldSeen) → IsTyped w → dump_of (dumped w) ≡ Ok (dump_seen w)
unfolding has_keys are_known
world_back w t =
    rw (
      agents_back w.agents.guards w.agents.agents t.agent_rules t.agents,
      values_back w.atoms.guards w.atoms.values t.atom_rules t.few_atoms,
      atoms_back w.base.atoms t.few_base_atoms,
      base_refs_back w.base t.few_base_refs,
      forms_back w.log t.few_entries,
      values_back w.refs.guards w.refs.values t.ref_rules t.few_refs,
      tally_back w.base.tally t.tally,
      entries_back 1 w.log t.log,
      zip_values w.base.refs w.base.last t.lasts,
      zip_lasts w.base.refs w.base.last t.lasts,
    )
    refl
