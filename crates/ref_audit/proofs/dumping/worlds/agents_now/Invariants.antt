use Rattle.std.proofs.Common.{◌≡◌, ◌≤◌, ◌++◌, length, map, drop}
use Rattle.std.specs.List.{enumerate_from}
use Rattle.ref_audit.specs.Dumped.{agent_form}
use Rattle.ref_audit.proofs.dumping.worlds.agents_now.Given as goal

-- The forms that are made and those that are left are all of them.
abbrev pub invariant-loop-g : goal.invariant-loop-g
invariant-loop-g l =
    let agents = l.world.agents.agents in
    let form = agent_form l.world.agents.guards in
    record {
      left : l.forms.items ++ map form (enumerate_from l.g (drop l.g agents)) ≡ map form (enumerate_from 0 agents);
      within : l.g ≤ length agents;
    }
