use Rattle.std.proofs.Common.{◌≡◌, ℕ}
use Rattle.ref_shared.specs.Waits.{gone_at}
use Rattle.ref_shared.proofs.shared.Held.wake_all.Given as goal

abbrev pub invariant-loop-target : goal.invariant-loop-target
invariant-loop-target g l = record {
  counts : (h : ℕ) → gone_at l.self.waiters.agents h ≡ gone_at l.fn.self.waiters.agents h;
  world : l.self.booked.world ≡ l.fn.self.booked.world;
}
