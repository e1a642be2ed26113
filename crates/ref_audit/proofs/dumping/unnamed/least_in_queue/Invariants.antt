use Rattle.std.proofs.Common.{◌≡◌, drop}
use Rattle.ref_audit.specs.Dumped.{least, lesser, unnamed_in_queued}
use Rattle.ref_audit.proofs.dumping.unnamed.least_in_queue.Given as goal

-- What is found and the least of what is left make the least of all.
abbrev pub invariant-loop-i : goal.invariant-loop-i
invariant-loop-i l = lesser l.found (least unnamed_in_queued (drop l.i l.account.queue)) ≡ least unnamed_in_queued l.account.queue
