use Rattle.std.proofs.Common.{◌≡◌, ◌<◌, ℕ, true}
use Rattle.ref_agents.specs.Agents.{account_at}
use Rattle.ref_audit.specs.OwnDump.{account_fact}
use Rattle.ref_audit.proofs.own_audit.references.tell_accounts.Given as goal

abbrev pub invariant-loop-g : goal.invariant-loop-g
invariant-loop-g l = (k : ℕ) → k < l.g → account_fact (account_at l.world.agents.agents k) ≡ true
