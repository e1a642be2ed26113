-- What a world tells of the reference of a number.
use Rattle.std.proofs.Common.{◌≡◌, ℕ, zero, suc, List, [], ◌∷◌, Option, None, Some, map, refl}
use Rattle.std.specs.Prelude.{slice_get}
use Rattle.ref_value.specs.Edn.{Edn}
use Rattle.ref_agents.specs.Account.{AccountSeen}
use Rattle.ref_agents.specs.Agents.{account_at, account_if_here}
use Rattle.ref_agents.specs.declared.agents.Agent.{Agent}
use Rattle.ref_log.specs.Guards as guards
use Rattle.ref_world.specs.Seen.{WorldSeen}
use Rattle.ref_world.specs.References.{guards_of, rule_at, value_at, values_of}
use Rattle.ref_audit.specs.Made.{who_of}
use Rattle.ref_audit.specs.declared.kinds.RefOrAtom.{RefOrAtom}
use Rattle.ref_audit.specs.declared.kinds.RefOrAtom.TheVariants as kinds

-- The values and the rules of a kind, by number.
pub value_at-who_of : (world : WorldSeen) (kind : RefOrAtom) (n : ℕ) → value_at world (who_of kind n) ≡ slice_get (values_of world (who_of kind 0)) n
value_at-who_of world kinds.Ref n = refl
value_at-who_of world kinds.Atom n = refl

pub rule_at-who_of : (world : WorldSeen) (kind : RefOrAtom) (n : ℕ) → rule_at world (who_of kind n) ≡ guards.rule_at (guards_of world (who_of kind 0)) n
rule_at-who_of world kinds.Ref n = refl
rule_at-who_of world kinds.Atom n = refl

-- The agent whose state this is.
pub agent_of_state : (agents : List Agent) (g : ℕ) (state : Edn) → slice_get (map (λ (agent : Agent). agent.value) agents) g ≡ Some state → (agent : Agent) × (slice_get agents g ≡ Some agent) × (agent.value ≡ state)
agent_of_state [] g state there = absurd cc
agent_of_state (a ∷ agents) zero state there =
    let same : a.value ≡ state = cc in
    (a, refl, same)
agent_of_state (a ∷ agents) (suc g) state there = agent_of_state agents g state there

pub no_state : (agents : List Agent) (g : ℕ) → slice_get (map (λ (agent : Agent). agent.value) agents) g ≡ None → slice_get agents g ≡ None
no_state [] zero none = refl
no_state [] (suc g) none = refl
no_state (a ∷ agents) zero none = absurd cc
no_state (a ∷ agents) (suc g) none = no_state agents g none

account_found : (found : Option Agent) (account : AccountSeen) → account_if_here found ≡ Some account → (agent : Agent) × (found ≡ Some agent) × (agent.account ≡ account)
account_found None account there = absurd cc
account_found (Some agent) account there =
    let same : agent.account ≡ account = cc in
    (agent, refl, same)

-- The agent whose account this is.
pub agent_of_account : (agents : List Agent) (g : ℕ) (account : AccountSeen) → account_at agents g ≡ Some account → (agent : Agent) × (slice_get agents g ≡ Some agent) × (agent.account ≡ account)
agent_of_account agents g account there = account_found (slice_get agents g) account there

account_none : (found : Option Agent) → account_if_here found ≡ None → found ≡ None
account_none None none = refl
account_none (Some agent) none = absurd cc

pub no_account : (agents : List Agent) (g : ℕ) → account_at agents g ≡ None → slice_get agents g ≡ None
no_account agents g none = account_none (slice_get agents g) none
