use Rattle.std.proofs.Common.{◌≡◌, ◌≤◌, drop, length}
use Rattle.ref_agents.specs.Agents.{without_each}
use Rattle.ref_agents.specs.Indexed.{with_items}
use Rattle.ref_agents.proofs.indexed.IndexedAgents.take_back.Given as goal

-- the sends behind those that are left are taken back
abbrev pub invariant-loop-left : goal.invariant-loop-left
invariant-loop-left g l = record {
  bound : l.left ≤ length l.sends;
  back : l.self ≡ with_items l.fn.self (without_each g.T.ToAgent.to (drop l.left l.sends) l.fn.self.items);
}

abbrev pub decreases-loop-left : goal.decreases-loop-left
decreases-loop-left g l = l.left
