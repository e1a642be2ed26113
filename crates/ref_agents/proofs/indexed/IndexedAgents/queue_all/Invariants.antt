use Rattle.std.proofs.Common.{◌≡◌, take}
use Rattle.ref_agents.specs.Agents.{with_each}
use Rattle.ref_agents.specs.Indexed.{with_items}
use Rattle.ref_agents.proofs.indexed.IndexedAgents.queue_all.Given as goal

-- the sends so far are in the queues
abbrev pub invariant-loop-i : goal.invariant-loop-i
invariant-loop-i g l = l.self ≡ with_items l.fn.self (with_each g.T.ToAgent.to g.T.ToAgent.of l.by (take l.i l.sends) l.fn.self.items)
