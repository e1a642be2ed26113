use Rattle.std.proofs.Common.{◌≡◌, ◌<◌, ℕ, true}
use Rattle.std.specs.Prelude.{slice_get}
use Rattle.ref_agents.specs.Agents.{values_of}
use Rattle.ref_log.specs.Guards.{rule_at}
use Rattle.ref_audit.specs.OwnDump.{rule_fact}
use Rattle.ref_audit.proofs.own_audit.references.tell_agents.Given as goal

abbrev pub invariant-loop-g : goal.invariant-loop-g
invariant-loop-g l = (k : ℕ) → k < l.g → rule_fact (slice_get (values_of l.world.agents.agents) k) (rule_at l.world.agents.guards k) ≡ true
