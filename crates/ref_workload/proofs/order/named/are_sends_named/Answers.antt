use Rattle.std.proofs.Common.{◌≡◌, drop}
use Rattle.std.specs.List.{filter_map}
use Rattle.ref_workload.specs.Orderly.{send_named}
use Rattle.ref_workload.proofs.Naming.{at_end, named_all}
use Rattle.ref_workload.proofs.order.named.are_sends_named.Goals as goal

pub returns : goal.returns
returns c =
    let ops = c.args.ops.now in
    let sends = c.args.sends.now in
    let at = c.loop-op.at in
    named_all send_named (sends ≡ filter_map send_named ops) (drop at sends) ops c.loop-op.op-index _ c.loop-op-test.false c.loop-op.invariant.same
    (at_end at sends c.loop-op.invariant.within)
