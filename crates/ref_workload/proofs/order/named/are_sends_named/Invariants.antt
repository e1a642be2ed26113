use Rattle.std.proofs.Common.{◌≡◌, ◌≤◌, drop, length}
use Rattle.std.specs.Prelude.{◌↔◌}
use Rattle.std.specs.List.{filter_map}
use Rattle.ref_workload.specs.Orderly.{send_named}
use Rattle.ref_workload.proofs.order.named.are_sends_named.Given as goal

abbrev pub invariant-loop-op : goal.invariant-loop-op
invariant-loop-op l = record {
  within : l.at ≤ length l.sends;
  same : (l.sends ≡ filter_map send_named l.ops) ↔ (drop l.at l.sends ≡ filter_map send_named (drop l.op-index l.ops));
}
