use Rattle.std.proofs.Common.{◌≡◌, take}
use Rattle.ref_audit.proofs.own_audit.seen.share_handled.Given as goal

abbrev pub invariant-loop-ended : goal.invariant-loop-ended
invariant-loop-ended l = l.all.items ≡ take l.ended-index l.handled
