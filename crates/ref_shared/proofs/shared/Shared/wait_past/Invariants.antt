use Rattle.std.proofs.Common.{◌≡◌}
use Rattle.ref_shared.proofs.shared.Shared.wait_past.Given as goal

abbrev pub invariant-loop : goal.invariant-loop
invariant-loop g l = l.share ≡ l.fn.share
