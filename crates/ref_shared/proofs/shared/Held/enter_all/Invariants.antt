use Rattle.std.proofs.Common.{◌≡◌, ℕ, map, take}
use Rattle.ref_shared.specs.Waits.{gone_at, target_of}
use Rattle.ref_shared.proofs.shared.Held.enter_all.Given as goal

abbrev pub invariant-loop-g : goal.invariant-loop-g
invariant-loop-g g l = record {
  world : l.self.booked.world ≡ l.fn.self.booked.world;
  counts : (h : ℕ) → gone_at l.self.waiters.agents h ≡ gone_at l.fn.self.waiters.agents h;
  targets : l.targets.items ≡ map (target_of l.fn.self.waiters.agents l.fn.self.booked.world.agents.agents) (take l.g-index l.agents);
}
