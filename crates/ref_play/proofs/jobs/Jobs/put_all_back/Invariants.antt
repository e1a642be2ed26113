use Rattle.std.proofs.Common.{◌≡◌, length}
use Rattle.ref_play.specs.Runs.{AreHeld}
use Rattle.ref_play.specs.Sims.{all_back, jobs_of}
use Rattle.ref_world.specs.World.{with_agents}
use Rattle.ref_play.proofs.jobs.Jobs.put_all_back.Given as goal

abbrev pub invariant-loop-a : goal.invariant-loop-a
invariant-loop-a g l = record {
  held : AreHeld g.M.Meaning.means l.world.agents.agents (jobs_of l.slots.entries);
  rest : with_agents l.world (all_back l.slots.entries l.world.agents) ≡ with_agents l.fn.world (all_back l.fn.self l.fn.world.agents);
}

abbrev pub decreases-loop-a : goal.decreases-loop-a
decreases-loop-a g l = length l.slots.entries
