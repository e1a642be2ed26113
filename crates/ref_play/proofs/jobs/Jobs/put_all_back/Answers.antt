use Rattle.std.proofs.Common.{false, None, Some, ◌∷◌, ap, refl, subst, sym, ◌∙◌}
use Rattle.ref_agents.specs.Agents.{with_out}
use Rattle.ref_agents.specs.Jobs.{JobSeen}
use Rattle.ref_play.specs.Runs.{AreHeld}
use Rattle.ref_world.specs.Seen.{WorldSeen}
use Rattle.ref_play.specs.Sims.{jobs_of}
use Rattle.ref_world.specs.World.{with_agents}
use Rattle.ref_play.proofs.BackAll.{back_rest, held_less, held_rest}
use Rattle.ref_play.proofs.jobs.Jobs.put_all_back.Goals as goal

pub loop-a-preserved-in-None : goal.loop-a-preserved-in-None
loop-a-preserved-in-None g c =
    let w = c.loop-a.world in
    let left = c.pop_first.new.self.entries in
    record {
      held = held_rest g.M.Meaning.means w c.loop-a.slots.entries left c.in-Some._a c.in-Some.ensures.updates.0 c.loop-a.invariant.held (c.in-Some.ensures.value ∙ ap Some c.in-None.is);
      rest = back_rest w w c.loop-a.slots.entries left c.in-Some._a None (c.in-Some.ensures.removal ∙ ap (λ s. (c.in-Some._a, s) ∷ left) c.in-None.is) refl ∙ c.loop-a.invariant.rest;
    }

pub loop-a-preserved : goal.loop-a-preserved
loop-a-preserved g c =
    let w = c.loop-a.world in
    let left = c.pop_first.new.self.entries in
    let held = c.in-Some-slot.held in
    let back = c.in-Ok.ensures.puts ∙ ap (λ (j : JobSeen). with_agents w (with_out w.agents j.agent false)) c.into_job-job.ensures in
    record {
      held = subst (λ (v : WorldSeen). AreHeld g.M.Meaning.means v.agents.agents (jobs_of left)) (sym back)
          (held_less g.M.Meaning.means w c.loop-a.slots.entries left c.in-Some._a c.in-Some.ensures.updates.0 c.loop-a.invariant.held held (c.in-Some.ensures.value ∙ ap Some c.in-Some-slot.is));
      rest = back_rest w c.put_back.new.self c.loop-a.slots.entries left c.in-Some._a (Some held) (c.in-Some.ensures.removal ∙ ap (λ s. (c.in-Some._a, s) ∷ left) c.in-Some-slot.is) back ∙ c.loop-a.invariant.rest;
    }
