-- What a workload says must be run.
use Rattle.std.specs.Prelude.{ℕ, List}
use Rattle.ref_forms.specs.Names.{NamesSeen}
use Rattle.ref_plan.specs.declared.plans.Step.{Step}
use Rattle.ref_agents.specs.declared.starts.AgentStart.{AgentStart}
use Rattle.ref_agents.specs.declared.starts.AtomStart.{AtomStart}
use Rattle.ref_agents.specs.declared.starts.RefStart.{RefStart}

-- The references that are declared, by number, with their names; the steps of each worker, by number; and how many threads run the
-- actions of agents.
pub record PlanSeen : Type 0 where
  pub names : NamesSeen
  pub refs : List RefStart
  pub atoms : List AtomStart
  pub agents : List AgentStart
  pub workers : List (List Step)
  pub pool : ℕ
