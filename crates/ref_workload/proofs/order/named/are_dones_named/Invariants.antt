use Rattle.std.proofs.Common.{◌≡◌, ◌≤◌, drop, length}
use Rattle.std.specs.Prelude.{◌↔◌}
use Rattle.std.specs.List.{filter_map}
use Rattle.ref_workload.specs.Orderly.{asked, op_named}
use Rattle.ref_workload.proofs.order.named.are_dones_named.Given as goal

abbrev pub invariant-loop-op : goal.invariant-loop-op
invariant-loop-op l = record {
  within : l.at ≤ length l.dones;
  same : (asked l.dones ≡ filter_map op_named l.ops) ↔ (asked (drop l.at l.dones) ≡ filter_map op_named (drop l.op-index l.ops));
}
