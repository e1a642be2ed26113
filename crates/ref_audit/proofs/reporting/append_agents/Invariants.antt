use Rattle.std.proofs.Common.{◌≡◌, ◌++◌, drop}
use Rattle.ref_audit.specs.Report.{agent_lines}
use Rattle.ref_audit.proofs.reporting.append_agents.Given as goal

-- What is written, and what is left to write, are all of the lines.
abbrev pub invariant-loop-i : goal.invariant-loop-i
invariant-loop-i l =
    let agents = l.world.agents.agents in
    l.out.items ++ agent_lines (drop l.i l.names) (drop l.i agents) ≡ l.fn.out.items ++ agent_lines l.names agents
