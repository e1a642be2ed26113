use Rattle.std.proofs.Common.{◌≡◌, ◌≤◌, ◌++◌, length, map, drop}
use Rattle.std.specs.List.{enumerate_from}
use Rattle.ref_audit.specs.OwnDump.{agent_seen}
use Rattle.ref_audit.proofs.own_audit.seen.agents_seen.Given as goal

-- Those that are taken and those that are left are all of them.
abbrev pub invariant-loop-g : goal.invariant-loop-g
invariant-loop-g l =
    let agents = l.world.agents.agents in
    let seen = agent_seen l.world.agents.guards in
    record {
      left : l.all.items ++ map seen (enumerate_from l.g (drop l.g agents)) ≡ map seen (enumerate_from 0 agents);
      within : l.g ≤ length agents;
    }
