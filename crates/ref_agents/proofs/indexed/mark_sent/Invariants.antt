use Rattle.std.proofs.Common.{◌≡◌, ◌≤◌, ◌-◌, ℕ, false, length, slice_get}
use Rattle.std.specs.BTreeSet.{keys}
use Rattle.ref_agents.specs.Agents.{is_ready_if_here}
use Rattle.ref_agents.specs.Indexed.{is_headed}
use Rattle.ref_agents.specs.Marks.{is_set}
use Rattle.ref_agents.proofs.indexed.mark_sent.Given as goal

-- all are marked but those behind whose first action the commit sent
abbrev pub invariant-loop-g : goal.invariant-loop-g
invariant-loop-g l = record {
  count : length l.ready ≡ length l.agents;
  marked : (h : ℕ) → (l.from ≤ h → is_headed l.point (slice_get l.agents h) ≡ false) → is_set l.ready h ≡ is_ready_if_here (keys l.unreleased) (slice_get l.agents h);
}

abbrev pub decreases-loop-g : goal.decreases-loop-g
decreases-loop-g l = length l.agents - l.from
