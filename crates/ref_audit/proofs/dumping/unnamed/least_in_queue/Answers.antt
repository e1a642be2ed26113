use Rattle.std.proofs.Common.{sym}
use Rattle.ref_audit.specs.Dumped.{unnamed_in_queued}
use Rattle.ref_audit.proofs.Leasts.{least_more}
use Rattle.ref_audit.proofs.Left.{left_at}
use Rattle.ref_audit.proofs.dumping.unnamed.least_in_queue.Goals as goal

pub loop-i-preserved : goal.loop-i-preserved
loop-i-preserved c =
    let queue = c.args.account.now.queue in
    let queued = c.in-Some.queued.now in
    let left = left_at queue c.loop-i.i queued (sym c.in-Some.ensures) in
    rw (c.lesser-found.ensures, c.unnamed.ensures) (least_more unnamed_in_queued queue c.loop-i.i queued c.loop-i.found _ left c.loop-i.invariant)
