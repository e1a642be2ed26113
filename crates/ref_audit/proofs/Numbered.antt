-- One more reference of a world, by its number.
use Rattle.std.proofs.Common.{◌≡◌, ℕ, zero, suc, ◌+◌, ◌≤◌, Bool, List, [], ◌∷◌, ◌++◌, Option, None, Some, map, sym, ap, ◌∙◌, arith, drop, length}
use Rattle.std.specs.List.{enumerate_from}
use Rattle.std.specs.Prelude.{is_some, slice_get}
use Rattle.ref_value.specs.Edn.{Edn}
use Rattle.ref_fun.specs.declared.rules.Rule.{Rule}
use Rattle.ref_agents.specs.Account.{AccountSeen}
use Rattle.ref_agents.specs.Agents.{account_at, error_at, error_if_here}
use Rattle.ref_agents.specs.declared.agents.Agent.{Agent}
use Rattle.ref_agents.specs.declared.faults.AgentError.{AgentError}
use Rattle.ref_log.specs.Guards as guards
use Rattle.ref_log.specs.declared.guards.Guard.{Guard}
use Rattle.ref_log.specs.declared.notices.Who.{Who}
use Rattle.ref_log.specs.declared.notices.Who.TheVariants as whos
use Rattle.ref_world.specs.Seen.{WorldSeen}
use Rattle.ref_world.specs.References.{guards_of, rule_at, value_at, values_of}
use Rattle.ref_audit.specs.Dumped.{least, lesser, unnamed_in_account, unnamed_in_agent}
use Rattle.ref_audit.specs.Made.{who_of}
use Rattle.ref_audit.specs.declared.kinds.RefOrAtom.{RefOrAtom}
use Rattle.ref_audit.proofs.Leasts.{least_all, least_more}
use Rattle.ref_audit.proofs.Left.{all_made, left_at, left_end}
use Rattle.ref_audit.proofs.References.{agent_of_account, no_account, rule_at-who_of, value_at-who_of}

pub below_of : {X : Type 0} (xs : List X) (i : ℕ) (x : X) → slice_get xs i ≡ Some x → i + 1 ≤ length xs
below_of [] i x there = absurd cc
below_of (y ∷ xs) zero x there = omega arith
below_of (y ∷ xs) (suc i) x there = omega (arith, below_of xs i x there)

numbered_left : {X Y : Type 0} (form : ℕ × X → Y) (xs : List X) (n : ℕ) (x : X) → slice_get xs n ≡ Some x
    → map form (enumerate_from n (drop n xs)) ≡ form (n, x) ∷ map form (enumerate_from (n + 1) (drop (n + 1) xs))
numbered_left form xs n x there = ap (λ l. map form (enumerate_from n l)) (left_at xs n x there)

numbered_end : {X Y : Type 0} (form : ℕ × X → Y) (xs : List X) (n : ℕ) → slice_get xs n ≡ None → map form (enumerate_from n (drop n xs)) ≡ []
numbered_end form xs n none = ap (λ l. map form (enumerate_from n l)) (left_end xs n none)

pub numbered_all : {X Y : Type 0} (form : ℕ × X → Y) (xs : List X) (n : ℕ) (made : List Y) → slice_get xs n ≡ None → made ++ map form (enumerate_from n (drop n xs)) ≡ map form (enumerate_from 0 xs) → made ≡ map form (enumerate_from 0 xs)
numbered_all form xs n made none so_far = all_made (map form (enumerate_from 0 xs)) made (map form (enumerate_from n (drop n xs))) so_far (numbered_end form xs n none)

-- ---- a ref or an atom

pub value_there : (world : WorldSeen) (kind : RefOrAtom) (n : ℕ) (who : Who) (found : Option Edn) → who ≡ who_of kind n → found ≡ value_at world who → slice_get (values_of world (who_of kind 0)) n ≡ found
value_there world kind n who found is told = sym (value_at-who_of world kind n) ∙ (ap (value_at world) (sym is) ∙ sym told)

-- what is made of a value and its rule
abbrev pub of_value : {Y : Type 0} → (Edn → Option Rule → Y) → List Guard → ℕ × Edn → Y
of_value make gs e = make e.1 (guards.rule_at gs e.0)

pub value_left : {Y : Type 0} (make : Edn → Option Rule → Y) (world : WorldSeen) (kind : RefOrAtom) (n : ℕ) (who : Who) (v : Edn) (rule : Option Rule) → who ≡ who_of kind n → Some v ≡ value_at world who → rule ≡ rule_at world who
    → map (of_value make (guards_of world (who_of kind 0))) (enumerate_from n (drop n (values_of world (who_of kind 0))))
    ≡ make v rule ∷ map (of_value make (guards_of world (who_of kind 0))) (enumerate_from (n + 1) (drop (n + 1) (values_of world (who_of kind 0))))
value_left make world kind n who v rule is told ruled =
    let values = values_of world (who_of kind 0) in
    let form = of_value make (guards_of world (who_of kind 0)) in
    let left = numbered_left form values n v (value_there world kind n who (Some v) is told) in
    let same : rule ≡ guards.rule_at (guards_of world (who_of kind 0)) n = ruled ∙ (ap (rule_at world) is ∙ rule_at-who_of world kind n) in
    left ∙ ap (λ r. make v r ∷ map form (enumerate_from (n + 1) (drop (n + 1) values))) (sym same)

-- ---- an agent

state_of : (agents : List Agent) (g : ℕ) (agent : Agent) → slice_get agents g ≡ Some agent → slice_get (map (λ (a : Agent). a.value) agents) g ≡ Some agent.value
state_of [] g agent there = absurd cc
state_of (a ∷ agents) zero agent there =
    let same : a ≡ agent = cc in
    ap (λ (b : Agent). Some b.value) same
state_of (a ∷ agents) (suc g) agent there = state_of agents g agent there

-- An agent with an account has a state.
pub has_state : (world : WorldSeen) (g : ℕ) (account : AccountSeen) → Some account ≡ account_at world.agents.agents g → None ≡ value_at world (whos.Agent g) → ⊥
has_state world g account told none =
    let found = agent_of_account world.agents.agents g account (sym told) in
    let state = state_of world.agents.agents g found.0 found.1 in
    let isnt : None ≡ Some found.0.value = none ∙ state in
    cc

same_some : (a b : Edn) → Some a ≡ Some b → a ≡ b
same_some a b is = cc

-- what is made of an agent's account, its state, whether it is failed, and its rule
abbrev pub of_agent : {Y : Type 0} → (AccountSeen → Edn → Bool → Option Rule → Y) → List Guard → ℕ × Agent → Y
of_agent make gs e = make e.1.account e.1.value (is_some e.1.error) (guards.rule_at gs e.0)

pub agent_left : {Y : Type 0} (make : AccountSeen → Edn → Bool → Option Rule → Y) (world : WorldSeen) (g : ℕ) (account : AccountSeen) (state : Edn) (error : Option AgentError) (failed : Bool) (rule : Option Rule)
    → Some account ≡ account_at world.agents.agents g → Some state ≡ value_at world (whos.Agent g) → error ≡ error_at world.agents.agents g → failed ≡ is_some error
    → rule ≡ rule_at world (whos.Agent g)
    → map (of_agent make world.agents.guards) (enumerate_from g (drop g world.agents.agents))
    ≡ make account state failed rule ∷ map (of_agent make world.agents.guards) (enumerate_from (g + 1) (drop (g + 1) world.agents.agents))
agent_left make world g account state error failed rule told stated erred fails ruled =
    let agents = world.agents.agents in
    let found = agent_of_account agents g account (sym told) in
    let agent = found.0 in
    let rest = map (of_agent make world.agents.guards) (enumerate_from (g + 1) (drop (g + 1) agents)) in
    let left = numbered_left (of_agent make world.agents.guards) agents g agent found.1 in
    let same_state : agent.value ≡ state = same_some agent.value state (sym (state_of agents g agent found.1) ∙ sym stated) in
    let same_error : is_some agent.error ≡ failed = ap is_some (sym (ap error_if_here found.1) ∙ sym erred) ∙ sym fails in
    left ∙ (ap (λ a. make a agent.value (is_some agent.error) (guards.rule_at world.agents.guards g) ∷ rest) found.2
    ∙ (ap (λ s. make account s (is_some agent.error) (guards.rule_at world.agents.guards g) ∷ rest) same_state
    ∙ (ap (λ f. make account state f (guards.rule_at world.agents.guards g) ∷ rest) same_error
    ∙ ap (λ r. make account state failed r ∷ rest) (sym ruled))))

pub agents_all : {Y : Type 0} (form : ℕ × Agent → Y) (agents : List Agent) (g : ℕ) (made : List Y) → None ≡ account_at agents g → made ++ map form (enumerate_from g (drop g agents)) ≡ map form (enumerate_from 0 agents) → made ≡ map form (enumerate_from 0 agents)
agents_all form agents g made none so_far = numbered_all form agents g made (no_account agents g (sym none)) so_far

pub account_within : (agents : List Agent) (g : ℕ) (account : AccountSeen) → Some account ≡ account_at agents g → g + 1 ≤ length agents
account_within agents g account told =
    let found = agent_of_account agents g account (sym told) in
    below_of agents g found.0 found.1

pub account_more : (agents : List Agent) (g : ℕ) (account : AccountSeen) (found all : Option ℕ) → Some account ≡ account_at agents g → lesser found (least unnamed_in_agent (drop g agents)) ≡ all
    → lesser (lesser found (unnamed_in_account account)) (least unnamed_in_agent (drop (g + 1) agents)) ≡ all
account_more agents g account least_found all told so_far =
    let found = agent_of_account agents g account (sym told) in
    let more = least_more unnamed_in_agent agents g found.0 least_found all (left_at agents g found.0 found.1) so_far in
    ap (λ a. lesser (lesser least_found (unnamed_in_account a)) (least unnamed_in_agent (drop (g + 1) agents))) (sym found.2) ∙ more

pub accounts_all : (agents : List Agent) (g : ℕ) (found all : Option ℕ) → None ≡ account_at agents g → lesser found (least unnamed_in_agent (drop g agents)) ≡ all → found ≡ all
accounts_all agents g found all none so_far = least_all unnamed_in_agent (drop g agents) found all (left_end agents g (no_account agents g (sym none))) so_far
