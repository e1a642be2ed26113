-- Of agents that are declared none is out, and nothing waits for them.
use Rattle.std.proofs.Common.{◌≡◌, ℕ, Bool, true, false, List, [], ◌∷◌, length-append, Option, None, Some, Result, Ok, Err, refl, subst, ◌∙◌, arith}
use Rattle.ref_fun.specs.Meaning.{Means}
use Rattle.ref_fun.specs.Rule.{Accepts}
use Rattle.ref_agents.specs.Agents.{AgentsSeen}
use Rattle.ref_agents.specs.Make.{agent_refusal, new_agent}
use Rattle.ref_log.specs.declared.faults.MakeFault.{MakeFault}
use Rattle.ref_log.specs.declared.notices.Who.{Who}
use Rattle.ref_agents.specs.declared.starts.AgentStart.{AgentStart}
use Rattle.ref_world.specs.Starts.{and_made, made_all, no_agents, or_refused, with_agent}
use Rattle.ref_world.specs.Starts as starts
use Rattle.ref_agents.specs.Make as makes
use Rattle.ref_play.specs.Present.{HeldSeen, WithJob}
use Rattle.ref_play.specs.Runs.{AreCarried, AreHeld, is_out_at}
use Rattle.ref_play.proofs.Carried.{carried_made}
use Rattle.ref_play.proofs.KeptJobs.{away_made}

abbrev AreIdle : AgentsSeen → Type 0
AreIdle store = ((g : ℕ) → is_out_at store.agents g ≡ false) × AreCarried store.agents

abbrev IdleIfMade : Result AgentsSeen (Who × MakeFault) → Type 0
IdleIfMade (Ok store) = AreIdle store
IdleIfMade (Err refused) = Unit {0}

or_idle : (w : Who) (refused : Option MakeFault) (store : AgentsSeen) → AreIdle store → IdleIfMade (or_refused w refused store)
or_idle w None store idle = idle
or_idle w (Some fault) store idle = tt

module _ (accepts : Accepts) (knows : ℕ → Bool) where
  one_idle : (s : AgentStart) (store : Result AgentsSeen (Who × MakeFault)) → IdleIfMade store → IdleIfMade (and_made (with_agent accepts knows) s store)
  one_idle s (Ok store) idle = or_idle _ (agent_refusal accepts knows store s.value s.rule) (makes.with_agent store s.value s.rule s.mode) (
    (λ g. away_made store.agents (new_agent s.value s.mode) g refl ∙ idle.0 g),
    carried_made store.agents (new_agent s.value s.mode) (omega (arith, length-append store.agents (new_agent s.value s.mode ∷ []))) refl refl refl refl idle.1,
  )
  one_idle s (Err refused) idle = tt

  all_idle : (ss : List AgentStart) (store : Result AgentsSeen (Who × MakeFault)) → IdleIfMade store → IdleIfMade (made_all (with_agent accepts knows) ss store)
  all_idle [] store idle = idle
  all_idle (s ∷ ss) store idle = all_idle ss (and_made (with_agent accepts knows) s store) (one_idle s store idle)

  pub declared_idle : (ss : List AgentStart) (store : AgentsSeen) → starts.declared_agents accepts knows ss ≡ Ok store → AreIdle store
  declared_idle ss store made = subst IdleIfMade made (all_idle ss (Ok no_agents) ((λ g. refl), record { waits = λ g. tt; holds = λ h g. omega arith; sound = λ g is. refl }))

no_job : (P : HeldSeen → Type 0) (o : Option HeldSeen) → o ≡ None → WithJob o P (Unit {0})
no_job P None none = tt
no_job P (Some held) none = absurd cc

-- where nobody has a job, and none is out
pub held_by_nobody : (means : Means) (store : AgentsSeen) (jobs : ℕ → Option HeldSeen) → ((a : ℕ) → jobs a ≡ None) → ((g : ℕ) → is_out_at store.agents g ≡ false) → AreHeld means store.agents jobs
held_by_nobody means store jobs none idle = record {
  held = λ a. no_job _ (jobs a) (none a);
  apart = λ a b other. no_job _ (jobs a) (none a);
  owned = λ g is_out. absurd (true_false (is_out_at store.agents g) is_out (idle g));
} where
  true_false : (b : Bool) → b ≡ true → b ≡ false → ⊥
  true_false b is isnt = cc
