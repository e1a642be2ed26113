use Rattle.std.proofs.Common.{◌≡◌, Some, rules}
use Rattle.std.specs.Prelude.{slice_get}
use Rattle.ref_audit.proofs.OwnFacts.{queued_more}
use Rattle.ref_audit.proofs.own_audit.parts.tell_queue.Goals as goal

pub loop-i-preserved : goal.loop-i-preserved
loop-i-preserved c =
    let queue = c.args.account.now.queue in
    let there : slice_get queue c.loop-i.i ≡ Some c.in-Some.queued.now = search rules in
    queued_more queue c.loop-i.i c.in-Some.queued.now there c.tell_action.ensures c.loop-i.invariant
