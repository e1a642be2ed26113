-- Queues to whose ends is added, and an agent that is put in the place of another.
use Rattle.std.proofs.Common.{◌≡◌, ◌≢◌, ℕ, zero, suc, cond, ◌==◌, Bool, true, false, List, [], ◌∷◌, map, Option, None, Some, slice_get, slice_set, refl, sym, ap, ◌∙◌}
use Rattle.std.specs.List.{filter}
use Rattle.std.proofs.lemmas.Bool.{eqb-false, eqb-true}
use Rattle.std.proofs.lemmas.List.{append-nil, append_assoc}
use Rattle.ref_fun.specs.declared.actions.Action.{Action}
use Rattle.ref_agents.specs.Agents.{put_agent, queuing, with_each, with_send}
use Rattle.ref_agents.specs.declared.accounts.Queued.{Queued}
use Rattle.ref_agents.specs.declared.accounts.SentBy.{SentBy}
use Rattle.ref_agents.specs.declared.agents.Agent.{Agent}
use Rattle.ref_play.specs.PlainAgents.{queued}

pub set_here : (agents : List Agent) (g : ℕ) (before after : Agent) → slice_get agents g ≡ Some before → slice_get (slice_set agents g after) g ≡ Some after
set_here [] g before after here = absurd cc
set_here (x ∷ xs) zero before after here = refl
set_here (x ∷ xs) (suc g) before after here = set_here xs g before after here

pub set_other : (agents : List Agent) (g h : ℕ) (after : Agent) → h ≢ g → slice_get (slice_set agents g after) h ≡ slice_get agents h
set_other [] g h after other = refl
set_other (x ∷ xs) zero zero after other = absurd (other refl)
set_other (x ∷ xs) zero (suc h) after other = refl
set_other (x ∷ xs) (suc g) zero after other = refl
set_other (x ∷ xs) (suc g) (suc h) after other = set_other xs g h after (λ same. other (ap suc same))

sent_one : (agents : List Agent) (h g : ℕ) (q : Queued) (agent : Agent) → slice_get agents g ≡ Some agent → slice_get (with_send agents h q) g ≡ Some (cond (h == g) (queuing q agent) agent)
sent_one agents h g q agent here = by (h == g) refl where
  others : h ≢ g → (found : Option Agent) → slice_get agents h ≡ found → slice_get (with_send agents h q) g ≡ Some agent
  others other None is = ap (λ o. slice_get (put_agent agents h (queuing q) o) g) is ∙ here
  others other (Some x) is = ap (λ o. slice_get (put_agent agents h (queuing q) o) g) is ∙ (set_other agents h g (queuing q x) (λ same. other (sym same)) ∙ here)

  by : (b : Bool) → (h == g) ≡ b → slice_get (with_send agents h q) g ≡ Some (cond b (queuing q agent) agent)
  by true is =
      let same = eqb-true h g is in
      let there = ap (slice_get agents) same ∙ here in
      ap (λ o. slice_get (put_agent agents h (queuing q) o) g) there
      ∙ (ap (slice_get (slice_set agents h (queuing q agent))) (sym same) ∙ set_here agents h agent (queuing q agent) there)
  by false is = others (eqb-false h g is) (slice_get agents h) refl

sent_none : (agents : List Agent) (h g : ℕ) (q : Queued) → slice_get agents g ≡ None → slice_get (with_send agents h q) g ≡ None
sent_none agents h g q none = by (slice_get agents h) refl where
  by : (found : Option Agent) → slice_get agents h ≡ found → slice_get (with_send agents h q) g ≡ None
  by None is = ap (λ o. slice_get (put_agent agents h (queuing q) o) g) is ∙ none
  by (Some x) is =
      let other : g ≢ h = λ same. let both = sym none ∙ (ap (slice_get agents) same ∙ is) in absurd cc in
      ap (λ o. slice_get (put_agent agents h (queuing q) o) g) is ∙ (set_other agents h g (queuing q x) other ∙ none)

-- with another queue
abbrev requeued : Agent → List Queued → Agent
requeued agent queue = record agent { account = record agent.account { queue = queue } }

pub each_here : {X : Type 0} (to : X → ℕ) (of : X → Action) (by : SentBy) (xs : List X) (agents : List Agent) (g : ℕ) (agent : Agent) → slice_get agents g ≡ Some agent
    → slice_get (with_each to of by xs agents) g ≡ Some (queued agent (map (λ x. record { action = of x; by = by }) (filter (λ x. to x == g) xs)))
each_here to of by [] agents g agent here = here ∙ ap (λ l. Some (requeued agent l)) (sym (append-nil agent.account.queue))
each_here {X} to of by (x ∷ xs) agents g agent here =
    each_here to of by xs (with_send agents (to x) (record { action = of x; by = by })) g (cond (to x == g) (queuing (record { action = of x; by = by }) agent) agent) (sent_one agents (to x) g (record { action = of x; by = by }) agent here)
    ∙ joined (to x == g)
  where
    joined : (b : Bool) → Some (queued (cond b (queuing (record { action = of x; by = by }) agent) agent) (map (λ (y : X). record { action = of y; by = by }) (filter (λ y. to y == g) xs)))
        ≡ Some (queued agent (map (λ (y : X). record { action = of y; by = by }) (cond b (x ∷ filter (λ y. to y == g) xs) (filter (λ y. to y == g) xs))))
    joined true = ap (λ l. Some (requeued agent l)) (append_assoc agent.account.queue (record { action = of x; by = by } ∷ []) (map (λ (y : X). record { action = of y; by = by }) (filter (λ y. to y == g) xs)))
    joined false = refl

pub each_none : {X : Type 0} (to : X → ℕ) (of : X → Action) (by : SentBy) (xs : List X) (agents : List Agent) (g : ℕ) → slice_get agents g ≡ None → slice_get (with_each to of by xs agents) g ≡ None
each_none to of by [] agents g none = none
each_none to of by (x ∷ xs) agents g none =
    each_none to of by xs (with_send agents (to x) (record { action = of x; by = by })) g (sent_none agents (to x) g (record { action = of x; by = by }) none)
