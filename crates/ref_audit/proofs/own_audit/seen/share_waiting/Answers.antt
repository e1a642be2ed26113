use Rattle.std.proofs.Common.{map, ap, sym}
use Rattle.ref_agents.specs.declared.accounts.Queued.{Queued}
use Rattle.ref_audit.proofs.Left.{left_at, one_more}
use Rattle.ref_audit.proofs.own_audit.seen.share_waiting.Goals as goal

pub loop-i-preserved : goal.loop-i-preserved
loop-i-preserved c =
    let left = left_at c.args.account.now.queue c.loop-i.i c.in-Some.queued.now (sym c.in-Some.ensures) in
    one_more _ _ _ _ _ _ _ c.loop-i.invariant (ap (map (λ (q : Queued). q.action)) left) c.in_ok-share.ensures c.in_ok-push.ensures.items
