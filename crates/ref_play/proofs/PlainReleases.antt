-- What the release of what an agent carried leaves, in plain words.
use Rattle.std.proofs.Common.{◌≡◌, ◌≢◌, ◌≤◌, ℕ, cond, ◌==◌, Bool, true, false, ◌⊎◌, inl, inr, List, [], ◌∷◌, map, refl, sym, ap, subst, ◌∙◌}
use Rattle.std.proofs.lemmas.Bool.{cases_eq, eq-eqb, eqb-false, eqb-true, ne_eqb}
use Rattle.ref_agents.specs.Account.{released, released_by}
use Rattle.ref_agents.specs.Agents.{carries_at, carrying, change_agent, is_carrying_at, is_carrying_if_here, with_agents, with_each_released}
use Rattle.ref_agents.specs.declared.accounts.Queued.{Queued}
use Rattle.ref_agents.specs.declared.accounts.SentBy.{SentBy}
use Rattle.ref_agents.specs.declared.accounts.SentBy.TheVariants.{Outside, Commit, Carried}
use Rattle.ref_agents.specs.declared.agents.Agent.{Agent}
use Rattle.ref_play.specs.Given.{queue_at, queue_if_here}
use Rattle.ref_play.specs.PlainAgents.{AreFreed, HasFreed, IsFreed, ReleaseCarriedMeans}
use Rattle.ref_play.specs.Runs.{held_by, sends_to}
use Rattle.ref_play.proofs.Freed.{changed_at, changed_none, each_freed, each_none, freed}

-- ---- queues

own_freed : (g : ℕ) (by : SentBy) → by ≡ Carried g → released_by g by ≡ Outside
own_freed g by is = ap (released_by g) is ∙ ap (λ b. cond b Outside (Carried g)) (eq-eqb g g refl)

others_stay : (g : ℕ) (by : SentBy) → by ≢ Carried g → released_by g by ≡ by
others_stay g Outside other = refl
others_stay g (Commit point) other = refl
others_stay g (Carried h) other = by (cases_eq h g) where
  by : (h ≡ g) ⊎ (h ≡ g → ⊥) → cond (h == g) Outside (Carried h) ≡ Carried h
  by (inl same) = absurd (other (ap Carried same))
  by (inr isnt) = ap (λ b. cond b Outside (Carried h)) (ne_eqb h g isnt)

are_freed : (g : ℕ) (qs : List Queued) → AreFreed g qs (map (released g) qs)
are_freed g [] = tt
are_freed g (q ∷ qs) = (refl, own_freed g q.by, others_stay g q.by, are_freed g qs)

-- ---- the release

is_freed : (g h : ℕ) (agent : Agent) (own : Bool) → (g == h) ≡ own → IsFreed g h agent (cond own (carrying false (freed g agent)) (freed g agent))
is_freed g h agent true own = record {
  value = refl;
  error = refl;
  mode = refl;
  out = refl;
  start = refl;
  past = refl;
  handled = refl;
  own = λ same. refl;
  carrying = λ other. absurd (other (sym (eqb-true g h own)));
  queue = are_freed g agent.account.queue;
}
is_freed g h agent false own = record {
  value = refl;
  error = refl;
  mode = refl;
  out = refl;
  start = refl;
  past = refl;
  handled = refl;
  own = λ same. absurd (eqb-false g h own (sym same));
  carrying = λ other. refl;
  queue = are_freed g agent.account.queue;
}

pub release_carried_means : ReleaseCarriedMeans
release_carried_means store g agent here few = record {
  same = λ idle. ap (λ b. cond b (with_agents store (change_agent (with_each_released g (carries_at store.agents g) store.agents) g (carrying false))) store) (ap is_carrying_if_here here ∙ idle);
  frees = λ carries.
      let is : is_carrying_at store.agents g ≡ true = ap is_carrying_if_here here ∙ carries in
      subst (λ s. HasFreed store s g) (sym (ap (λ b. cond b (with_agents store (change_agent (with_each_released g (carries_at store.agents g) store.agents) g (carrying false))) store) is)) (record {
        here = λ h x there.
            let no_more = subst (λ b. held_by g (queue_at store.agents h) ≤ cond b (sends_to (carries_at store.agents g) h) 0) is (few h) in (
              cond (g == h) (carrying false (freed g x)) (freed g x),
              changed_at (with_each_released g (carries_at store.agents g) store.agents) g h (carrying false) (freed g x)
                  (each_freed g (carries_at store.agents g) store.agents h x there (subst (λ o. held_by g (queue_if_here o) ≤ sends_to (carries_at store.agents g) h) there no_more)),
              is_freed g h x (g == h) refl,
            );
        none = λ h none. changed_none (with_each_released g (carries_at store.agents g) store.agents) g h (carrying false) (each_none g (carries_at store.agents g) store.agents h none);
        guards = refl;
        unreleased = refl;
      });
}
