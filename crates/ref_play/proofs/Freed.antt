-- What the release of what an agent carried leaves.
use Rattle.std.proofs.Common.{◌≡◌, ℕ, suc, ◌==◌, ◌≤◌, cond, Bool, true, false, ◌⊎◌, inl, inr, List, [], ◌∷◌, length, map, Option, None, Some, slice_get, refl, sym, ap, subst, ◌∙◌, arith}
use Rattle.std.specs.List.{AllByRecursion}
use Rattle.std.proofs.lemmas.Bool.{cases_eq, eq-eqb, ne_eqb}
use Rattle.std.proofs.lemmas.List.{length-set}
use Rattle.ref_fun.specs.declared.carries.Carry.{Carry}
use Rattle.ref_agents.specs.Account.{released}
use Rattle.ref_agents.specs.Agents.{AgentsSeen, carries_at, carries_if_here, change_agent, error_if_here, is_carrying_at, is_carrying_if_here, put_agent, releasing, with_agents, with_carried_released, with_each_released}
use Rattle.ref_agents.specs.Agents as agents_in
use Rattle.ref_agents.specs.declared.accounts.Queued.{Queued}
use Rattle.ref_agents.specs.declared.agents.Agent.{Agent}
use Rattle.ref_play.specs.Given.{queue_at, queue_if_here}
use Rattle.ref_play.specs.Runs.{AreCarried, IsWaiting, held_by, may_hold, sends_to}
use Rattle.ref_play.proofs.Carried.{waits_on}
use Rattle.ref_play.proofs.Given.{put_elsewhere, seen_changed, seen_freed, seen_released, seen_same}
use Rattle.ref_play.proofs.Held.{held_released, last_less, map_last, map_none, none_left}

-- ---- an agent

-- with all that is held in the name of h released
abbrev pub freed : ℕ → Agent → Agent
freed h agent = record agent { account = record agent.account { queue = map (released h) agent.account.queue } }

pub changed_at : (agents : List Agent) (k g : ℕ) (f : Agent → Agent) (agent : Agent) → slice_get agents g ≡ Some agent → slice_get (change_agent agents k f) g ≡ Some (cond (k == g) (f agent) agent)
changed_at agents k g f agent here = by (cases_eq k g) where
  by : (k ≡ g) ⊎ (k ≡ g → ⊥) → slice_get (change_agent agents k f) g ≡ Some (cond (k == g) (f agent) agent)
  by (inl same) = seen_changed (λ o. o) agents k g f agent (ap (slice_get agents) same ∙ here) ∙ (ap (λ b. cond b (Some (f agent)) (slice_get agents g)) (eq-eqb k g same) ∙ ap (λ b. Some (cond b (f agent) agent)) (sym (eq-eqb k g same)))
  by (inr other) = put_elsewhere agents k g f (slice_get agents k) other ∙ (here ∙ ap (λ b. Some (cond b (f agent) agent)) (sym (ne_eqb k g other)))

pub changed_none : (agents : List Agent) (k g : ℕ) (f : Agent → Agent) → slice_get agents g ≡ None → slice_get (change_agent agents k f) g ≡ None
changed_none agents k g f none = by (cases_eq k g) where
  by : (k ≡ g) ⊎ (k ≡ g → ⊥) → slice_get (change_agent agents k f) g ≡ None
  by (inl same) = ap (λ o. slice_get (put_agent agents k f o) g) (ap (slice_get agents) same ∙ none) ∙ none
  by (inr other) = put_elsewhere agents k g f (slice_get agents k) other ∙ none

-- One for each that was carried there is enough, if no more is held.
pub each_freed : (h : ℕ) (cs : List Carry) (agents : List Agent) (g : ℕ) (agent : Agent) → slice_get agents g ≡ Some agent → held_by h agent.account.queue ≤ sends_to cs g
    → slice_get (with_each_released h cs agents) g ≡ Some (freed h agent)
each_freed h [] agents g agent here few = here ∙ ap (λ l. Some (record agent { account = record agent.account { queue = l } })) (sym (map_none h agent.account.queue few))
each_freed h (c ∷ cs) agents g agent here few = by (each_freed h cs (change_agent agents c.g (releasing h)) g) (c.g == g) few (changed_at agents c.g g (releasing h) agent here) where
  by : ((x : Agent) → slice_get (change_agent agents c.g (releasing h)) g ≡ Some x → held_by h x.account.queue ≤ sends_to cs g → slice_get (with_each_released h cs (change_agent agents c.g (releasing h))) g ≡ Some (freed h x))
      → (b : Bool) → held_by h agent.account.queue ≤ cond b (suc (sends_to cs g)) (sends_to cs g) → slice_get (change_agent agents c.g (releasing h)) g ≡ Some (cond b (releasing h agent) agent)
      → slice_get (with_each_released h cs (change_agent agents c.g (releasing h))) g ≡ Some (freed h agent)
  by rest true few one =
      rest (releasing h agent) one (omega (arith, last_less h agent.account.queue, few))
      ∙ ap (λ l. Some (record agent { account = record agent.account { queue = l } })) (map_last h agent.account.queue)
  by rest false few one = rest agent one few

pub each_none : (h : ℕ) (cs : List Carry) (agents : List Agent) (g : ℕ) → slice_get agents g ≡ None → slice_get (with_each_released h cs agents) g ≡ None
each_none h [] agents g none = none
each_none h (c ∷ cs) agents g none = each_none h cs (change_agent agents c.g (releasing h)) g (changed_none agents c.g g (releasing h) none)

queue_each : (h : ℕ) (cs : List Carry) (agents : List Agent) (g : ℕ) → held_by h (queue_at agents g) ≤ sends_to cs g → queue_at (with_each_released h cs agents) g ≡ map (released h) (queue_at agents g)
queue_each h cs agents g few = by (slice_get agents g) refl where
  by : (there : Option Agent) → slice_get agents g ≡ there → queue_at (with_each_released h cs agents) g ≡ map (released h) (queue_at agents g)
  by None is = ap queue_if_here (each_none h cs agents g is) ∙ ap (λ o. map (released h) (queue_if_here o)) (sym is)
  by (Some agent) is =
      ap queue_if_here (each_freed h cs agents g agent is (subst (λ o. held_by h (queue_if_here o) ≤ sends_to cs g) is few))
      ∙ ap (λ o. map (released h) (queue_if_here o)) (sym is)

-- ---- the release

released-length : (h : ℕ) (cs : List Carry) (agents : List Agent) → length (with_each_released h cs agents) ≡ length agents
released-length h [] agents = refl
released-length h (c ∷ cs) agents = released-length h cs (change_agent agents c.g (releasing h)) ∙ put-length agents c.g (releasing h) (slice_get agents c.g) where
  put-length : (xs : List Agent) (g : ℕ) (f : Agent → Agent) (there : Option Agent) → length (put_agent xs g f there) ≡ length xs
  put-length xs g f None = refl
  put-length xs g f (Some agent) = length-set xs g (f agent)

module _ (store : AgentsSeen) (h : ℕ) where
  pub freed-length : length (with_carried_released store h).agents ≡ length store.agents
  freed-length = by (is_carrying_at store.agents h) where
    put-length : (xs : List Agent) (g : ℕ) (f : Agent → Agent) (there : Option Agent) → length (put_agent xs g f there) ≡ length xs
    put-length xs g f None = refl
    put-length xs g f (Some agent) = length-set xs g (f agent)

    by : (b : Bool) → length (cond b (with_agents store (change_agent (with_each_released h (carries_at store.agents h) store.agents) h (agents_in.carrying false))) store).agents ≡ length store.agents
    by true = put-length (with_each_released h (carries_at store.agents h) store.agents) h (agents_in.carrying false) (slice_get (with_each_released h (carries_at store.agents h) store.agents) h)
        ∙ released-length h (carries_at store.agents h) store.agents
    by false = refl

  pub queue_freed : AreCarried store.agents → (g : ℕ) → queue_at (with_carried_released store h).agents g ≡ map (released h) (queue_at store.agents g)
  queue_freed are g = by (is_carrying_at store.agents h) (are.holds h g) where
    by : (b : Bool) → held_by h (queue_at store.agents g) ≤ cond b (sends_to (carries_at store.agents h) g) 0
        → queue_at (cond b (with_agents store (change_agent (with_each_released h (carries_at store.agents h) store.agents) h (agents_in.carrying false))) store).agents g ≡ map (released h) (queue_at store.agents g)
    by true few = seen_same queue_if_here (with_each_released h (carries_at store.agents h) store.agents) h g (agents_in.carrying false) (λ agent here. refl)
        ∙ queue_each h (carries_at store.agents h) store.agents g few
    by false few = sym (map_none h (queue_at store.agents g) few)

  pub carrying_freed : (g : ℕ) → is_carrying_at (with_carried_released store h).agents g ≡ cond (h == g) false (is_carrying_at store.agents g)
  carrying_freed g = by (is_carrying_at store.agents h) refl where
    seen : (x : ℕ) → is_carrying_at (with_each_released h (carries_at store.agents h) store.agents) x ≡ is_carrying_at store.agents x
    seen x = seen_released is_carrying_if_here h (λ agent. refl) (carries_at store.agents h) store.agents x

    there : (o : Option Agent) → slice_get (with_each_released h (carries_at store.agents h) store.agents) h ≡ o → is_carrying_if_here o ≡ true
        → is_carrying_at (change_agent (with_each_released h (carries_at store.agents h) store.agents) h (agents_in.carrying false)) g ≡ cond (h == g) false (is_carrying_at store.agents g)
    there None here is = absurd cc
    there (Some agent) here is = seen_changed is_carrying_if_here (with_each_released h (carries_at store.agents h) store.agents) h g (agents_in.carrying false) agent here ∙ ap (cond (h == g) false) (seen g)

    none : is_carrying_at store.agents h ≡ false → (h ≡ g) ⊎ (h ≡ g → ⊥) → is_carrying_at store.agents g ≡ cond (h == g) false (is_carrying_at store.agents g)
    none is (inl same) = rw (eq-eqb h g same) (ap (is_carrying_at store.agents) (sym same) ∙ is)
    none is (inr other) = rw (ne_eqb h g other) refl

    by : (b : Bool) → is_carrying_at store.agents h ≡ b → is_carrying_at (cond b (with_agents store (change_agent (with_each_released h (carries_at store.agents h) store.agents) h (agents_in.carrying false))) store).agents g ≡ cond (h == g) false (is_carrying_at store.agents g)
    by true is = there (slice_get (with_each_released h (carries_at store.agents h) store.agents) h) refl (seen h ∙ is)
    by false is = none is (cases_eq h g)

  pub carried_freed : AreCarried store.agents → AreCarried (with_carried_released store h).agents
  carried_freed are = record {
    waits = λ g. subst (AllByRecursion (IsWaiting (with_carried_released store h).agents)) (sym (queue_freed are g))
        (all g (queue_at store.agents g) (waits_on store.agents (with_carried_released store h).agents (omega (arith, freed-length)) (queue_at store.agents g) (are.waits g)));
    holds = λ f g.
        let is = ap (held_by f) (queue_freed are g) in
        omega (arith, is, few f g (cases_eq h f));
    sound = λ g is. seen_freed error_if_here store h g (λ agent. refl) (λ agent. refl) ∙ are.sound g (was (h == g) (is_carrying_at store.agents g) (sym (carrying_freed g) ∙ is));
  } where
    was : (b c : Bool) → cond b false c ≡ true → c ≡ true
    was true c is = absurd cc
    was false c is = is

    all : (g : ℕ) (qs : List Queued) → AllByRecursion (IsWaiting (with_carried_released store h).agents) qs → AllByRecursion (IsWaiting (with_carried_released store h).agents) (map (released h) qs)
    all g [] are = tt
    all g (q ∷ qs) are = (are.0, all g qs are.1)

    few : (f g : ℕ) → (h ≡ f) ⊎ (h ≡ f → ⊥) → held_by f (map (released h) (queue_at store.agents g)) ≤ may_hold (with_carried_released store h).agents f g
    few f g (inl same) = subst (λ n. held_by n (map (released h) (queue_at store.agents g)) ≤ may_hold (with_carried_released store h).agents n g) same (omega (arith, none_left h (queue_at store.agents g)))
    few f g (inr other) =
        let may : may_hold (with_carried_released store h).agents f g ≡ may_hold store.agents f g =
        ap (λ b. cond b (sends_to (carries_at (with_carried_released store h).agents f) g) 0) (carrying_freed f ∙ ap (λ b. cond b false (is_carrying_at store.agents f)) (ne_eqb h f other))
        ∙ ap (λ l. cond (is_carrying_at store.agents f) (sends_to l g) 0) (seen_freed carries_if_here store h f (λ agent. refl) (λ agent. refl)) in
        omega (arith, may, held_released f h (queue_at store.agents g) (ne_eqb f h (λ same. other (sym same))), are.holds f g)
