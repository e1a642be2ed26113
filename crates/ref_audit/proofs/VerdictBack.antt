-- The verdict on a world's dump.
use Rattle.std.proofs.Common.{◌≡◌, ℕ, suc, ◌+◌, ◌==◌, true, List, [], ◌∷◌, map, None, refl, ap, subst, ◌∙◌, arith}
use Rattle.std.proofs.lemmas.Bool.Decides.{nat_tests}
use Rattle.std.specs.Prelude.{slice_get}
use Rattle.std.specs.List.{enumerate_from, position_from}
use Rattle.std.specs.Ordering.{eq_by_cmp}
use Rattle.ref_value.specs.Edn.{Edn}
use Rattle.ref_value.specs.Order.{edn_cmp}
use Rattle.ref_value.specs.OrderLaws.{edn_eq}
use Rattle.ref_fun.specs.Core.{core_accepts, core_means}
use Rattle.ref_fun.specs.Rule.{passes}
use Rattle.ref_log.specs.Guards.{AreAccepted, passes_if_here, rule_at}
use Rattle.ref_log.specs.Tally.{commits_of, moved_of}
use Rattle.ref_log.specs.declared.counting.Side.TheVariants.{Added, Taken}
use Rattle.ref_log.specs.declared.guards.Guard.{Guard}
use Rattle.ref_agents.specs.Agents.{AreAgents, IsAgent, values_of}
use Rattle.ref_agents.specs.declared.agents.Agent.{Agent}
use Rattle.ref_world.specs.Seen.{WorldSeen}
use Rattle.ref_audit.specs.OwnDump.{IsSound, agent_seen, agents_seen, dump_seen, kept_seen, kepts_seen}
use Rattle.ref_verdict.specs.Verdict.{agent_breaks_rule, breaks_fold, breaks_rule, first_difference, verdict}
use Rattle.ref_verdict.specs.Verdict as audits
use Rattle.ref_verdict.specs.declared.reports.Verdict.TheVariants as verdicts

equal_itself : (x : Edn) → eq_by_cmp edn_cmp x x ≡ true
equal_itself x = (edn_eq x x (eq_by_cmp edn_cmp x x) refl).1 refl

no_difference : (n : ℕ) (xs : List Edn) → first_difference n xs xs ≡ None
no_difference n [] = refl
no_difference n (x ∷ xs) = rw (equal_itself x) (no_difference (n + 1) xs)

values_seen : (guards : List Guard) (n : ℕ) (values : List Edn) → audits.values_of (map (kept_seen guards) (enumerate_from n values)) ≡ values
values_seen guards n [] = refl
values_seen guards n (v ∷ values) = ap (λ vs. v ∷ vs) (values_seen guards (n + 1) values)

kepts_same : (guards : List Guard) (values : List Edn) → first_difference 0 (audits.values_of (kepts_seen guards values)) values ≡ None
kepts_same guards values = ap (λ vs. first_difference 0 vs values) (values_seen guards 0 values) ∙ no_difference 0 values

-- ---- rules

-- what is here at a number from m on
later : (P : ℕ → Type 0) (m k : ℕ) → P (m + suc k) → P (m + 1 + k)
later P m k p = let same : m + suc k ≡ m + 1 + k = omega arith in subst P same p

kept_pass : (guards : List Guard) (m p : ℕ) (values : List Edn) → ((k : ℕ) → passes_if_here core_accepts (rule_at guards (m + k)) (slice_get values k) ≡ true) → position_from breaks_rule p (map (kept_seen guards) (enumerate_from m values)) ≡ None
kept_pass guards m p [] pass = refl
kept_pass guards m p (v ∷ values) pass =
    let here : passes core_accepts (rule_at guards m) v ≡ true = (let same : m + 0 ≡ m = omega arith in rw same at (pass 0)) in
    let rest : (k : ℕ) → passes_if_here core_accepts (rule_at guards (m + 1 + k)) (slice_get values k) ≡ true = λ k. later (λ i. passes_if_here core_accepts (rule_at guards i) (slice_get values k) ≡ true) m k (pass (suc k)) in
    rw here (kept_pass guards (m + 1) (p + 1) values rest)

kepts_pass : (guards : List Guard) (values : List Edn) → AreAccepted core_accepts guards values → position_from breaks_rule 0 (kepts_seen guards values) ≡ None
kepts_pass guards values accepted =
    let from_0 : (k : ℕ) → passes_if_here core_accepts (rule_at guards (0 + k)) (slice_get values k) ≡ true = λ k. (let same : k ≡ 0 + k = omega arith in subst (λ i. passes_if_here core_accepts (rule_at guards i) (slice_get values k) ≡ true) same (accepted k)) in
    kept_pass guards 0 0 values from_0

agent_pass : (guards : List Guard) (m p : ℕ) (agents : List Agent) → ((k : ℕ) → passes_if_here core_accepts (rule_at guards (m + k)) (slice_get (values_of agents) k) ≡ true) → position_from agent_breaks_rule p (map (agent_seen guards) (enumerate_from m agents)) ≡ None
agent_pass guards m p [] pass = refl
agent_pass guards m p (agent ∷ agents) pass =
    let here : passes core_accepts (rule_at guards m) agent.value ≡ true = (let same : m + 0 ≡ m = omega arith in rw same at (pass 0)) in
    let rest : (k : ℕ) → passes_if_here core_accepts (rule_at guards (m + 1 + k)) (slice_get (values_of agents) k) ≡ true = λ k. later (λ i. passes_if_here core_accepts (rule_at guards i) (slice_get (values_of agents) k) ≡ true) m k (pass (suc k)) in
    rw here (agent_pass guards (m + 1) (p + 1) agents rest)

agents_pass : (guards : List Guard) (agents : List Agent) → AreAccepted core_accepts guards (values_of agents) → position_from agent_breaks_rule 0 (agents_seen guards agents) ≡ None
agents_pass guards agents accepted =
    let from_0 : (k : ℕ) → passes_if_here core_accepts (rule_at guards (0 + k)) (slice_get (values_of agents) k) ≡ true = λ k. (let same : k ≡ 0 + k = omega arith in subst (λ i. passes_if_here core_accepts (rule_at guards i) (slice_get (values_of agents) k) ≡ true) same (accepted k)) in
    agent_pass guards 0 0 agents from_0

-- ---- folds

folds : (guards : List Guard) (m p : ℕ) (agents : List Agent) → AreAgents core_means agents → position_from breaks_fold p (map (agent_seen guards) (enumerate_from m agents)) ≡ None
folds guards m p [] are = refl
folds guards m p (agent ∷ agents) are =
    let here : IsAgent core_means agent = are 0 in
    let rest : AreAgents core_means agents = λ g. are (suc g) in
    rw (here.folded, equal_itself agent.value) (folds guards (m + 1) (p + 1) agents rest)

-- ---- books

equal_test : (a b : ℕ) → a ≡ b → (a == b) ≡ true
equal_test a b same = grind (arith, nat_tests)

pub verdict_back : (w : WorldSeen) → IsSound w → verdict (dump_seen w) ≡ verdicts.Ok
verdict_back w s =
    rw (
      s.replayed,
      kepts_same w.refs.guards w.refs.values,
      kepts_same w.atoms.guards w.atoms.values,
      kepts_pass w.refs.guards w.refs.values s.ref_rules,
      kepts_pass w.atoms.guards w.atoms.values s.atom_rules,
      agents_pass w.agents.guards w.agents.agents s.agent_rules,
      folds w.agents.guards 0 0 w.agents.agents s.agents,
      equal_test w.books.commits (w.base.commits + commits_of w.log) s.commits,
      equal_test w.books.added (w.base.added + moved_of Added w.base.tally w.log) s.added,
      equal_test w.books.taken (w.base.taken + moved_of Taken w.base.tally w.log) s.taken,
      s.lawful,
    )
    refl
