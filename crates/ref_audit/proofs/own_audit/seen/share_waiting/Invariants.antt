use Rattle.std.proofs.Common.{◌≡◌, ◌++◌, map, drop}
use Rattle.ref_audit.proofs.own_audit.seen.share_waiting.Given as goal

-- Those that are taken and those that are left are all of them.
abbrev pub invariant-loop-i : goal.invariant-loop-i
invariant-loop-i l = l.all.items ++ map (λ q. q.action) (drop l.i l.account.queue) ≡ map (λ q. q.action) l.account.queue
