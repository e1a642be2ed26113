-- Jobs that are put back one by one.
use Rattle.std.proofs.Common.{Bool, true, false, ◌≡◌, ℕ, cond, List, [], ◌∷◌, Option, None, Some, refl, sym, ap, subst, ◌∙◌}
use Rattle.std.specs.BTreeMap.{is_at}
use Rattle.std.specs.Ordering.{nat_cmp}
use Rattle.ref_fun.specs.Meaning.{Means}
use Rattle.ref_agents.specs.Agents.{change_agent, outed}
use Rattle.ref_agents.specs.declared.agents.Agent.{Agent}
use Rattle.ref_world.specs.Seen.{WorldSeen}
use Rattle.ref_world.specs.Shares.{whole}
use Rattle.ref_world.specs.World.{with_agents}
use Rattle.ref_play.specs.Present.{HeldSeen, WithJob}
use Rattle.ref_play.specs.Runs.{AreHeld, IsOwned, is_out_at}
use Rattle.ref_play.specs.Sims.{JobSlots, all_back, in_slot, jobs_of, one_back, present, slot_of}
use Rattle.ref_play.proofs.KeptJobs.{jobs_gone}
use Rattle.ref_play.proofs.Slots.{put_same, removed}

module _ (means : Means) (w : WorldSeen) (old new : JobSlots) (a : ℕ) (gone : (q : ℕ) → slot_of new q ≡ cond (is_at (nat_cmp a) q) None (slot_of old q)) (are : AreHeld means w.agents.agents (jobs_of old)) where
  pub held_rest : slot_of old a ≡ Some None → AreHeld means w.agents.agents (jobs_of new)
  held_rest here = subst (AreHeld means w.agents.agents) (sym (removed old new a gone ∙ put_same (jobs_of old) a None (ap in_slot here))) are

  pub held_less : (held : HeldSeen) → slot_of old a ≡ Some (Some held) → AreHeld means (change_agent w.agents.agents held.job.agent (outed false)) (jobs_of new)
  held_less held here = subst (AreHeld means (change_agent w.agents.agents held.job.agent (outed false))) (sym (removed old new a gone))
      (jobs_gone means (present (record { world = w; share = whole (record { start = w.base; entries = [] }); slots = []; jobs = old })) a held (outed false) (λ agent. refl) (ap in_slot here) are)

pub back_rest : (w v : WorldSeen) (old new : JobSlots) (a : ℕ) (slot : Option HeldSeen) → old ≡ (a, slot) ∷ new → v ≡ with_agents w (one_back slot w.agents) → with_agents v (all_back new v.agents) ≡ with_agents w (all_back old w.agents)
back_rest w v old new a slot was is = ap (λ (x : WorldSeen). with_agents x (all_back new x.agents)) is ∙ ap (λ l. with_agents w (all_back l w.agents)) (sym was)

-- where no actor has a job, none is out
pub none_out : (means : Means) (agents : List Agent) (jobs : JobSlots) → jobs ≡ [] → AreHeld means agents (jobs_of jobs) → (g : ℕ) → is_out_at agents g ≡ false
none_out means agents jobs none are g = by (is_out_at agents g) refl where
  nobody : IsOwned (jobs_of jobs) g → ⊥
  nobody owner = subst (λ l. WithJob (jobs_of l owner.0) (λ (h : HeldSeen). h.job.agent ≡ g) ⊥) none owner.1

  by : (b : Bool) → is_out_at agents g ≡ b → is_out_at agents g ≡ false
  by true is = absurd (nobody (are.owned g is))
  by false is = is
