use Rattle.std.proofs.Common.{◌≡◌, drop}
use Rattle.std.specs.List.{filter_map}
use Rattle.ref_workload.specs.Orderly.{asked, op_named}
use Rattle.ref_workload.proofs.Naming.{asked_end, named_all}
use Rattle.ref_workload.proofs.order.named.are_dones_named.Goals as goal

pub returns : goal.returns
returns c =
    let ops = c.args.ops.now in
    let dones = c.args.dones.now in
    let at = c.loop-op.at in
    named_all op_named (asked dones ≡ filter_map op_named ops) (asked (drop at dones)) ops c.loop-op.op-index _ c.loop-op-test.false c.loop-op.invariant.same
    (asked_end at dones c.loop-op.invariant.within)
