use Rattle.std.proofs.Common.{◌≡◌, true, take}
use Rattle.std.specs.List.{list_all}
use Rattle.ref_audit.specs.OwnDump.{is_small_queued}
use Rattle.ref_audit.proofs.own_audit.parts.tell_queue.Given as goal

abbrev pub invariant-loop-i : goal.invariant-loop-i
invariant-loop-i l = list_all is_small_queued (take l.i l.account.queue) ≡ true
