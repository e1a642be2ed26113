use Rattle.std.proofs.Common.{◌≡◌, ◌≤◌, length, drop}
use Rattle.ref_audit.specs.Dumped.{least, lesser, unnamed, unnamed_in_agent}
use Rattle.ref_audit.proofs.dumping.worlds.unnamed_in.Given as goal

-- What is found and the least of what is left make the least of all.
abbrev pub invariant-loop-g : goal.invariant-loop-g
invariant-loop-g l = record {
  left : lesser l.found (least unnamed_in_agent (drop l.g l.world.agents.agents)) ≡ unnamed l.world;
  within : l.g ≤ length l.world.agents.agents;
}
