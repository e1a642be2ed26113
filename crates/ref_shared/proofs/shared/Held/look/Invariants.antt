use Rattle.std.proofs.Common.{◌≡◌, drop, if◌then◌else◌}
use Rattle.ref_shared.specs.Waits.{left_of, look_of}
use Rattle.ref_shared.proofs.shared.Held.look.Given as goal

abbrev pub invariant-loop-target : goal.invariant-loop-target
invariant-loop-target g l =
    let look = look_of l.self.waiters.agents l.self.booked.world.agents.agents in
    look l.targets ≡ (if l.is_left then left_of (look (drop l.target-index l.targets)) else look (drop l.target-index l.targets))
