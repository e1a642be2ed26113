use Rattle.std.proofs.Common.{◌≡◌, map}
use Rattle.ref_shared.proofs.shared.Shared.await_agents.Given as goal
use Rattle.ref_shared.specs.declared.waiters.Target.{Target}

abbrev pub invariant-loop : goal.invariant-loop
invariant-loop g l = map (λ (t : Target). t.g) l.targets.items ≡ l.fn.agents
