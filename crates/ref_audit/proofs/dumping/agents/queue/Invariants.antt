use Rattle.std.proofs.Common.{◌≡◌, ◌++◌, map, drop}
use Rattle.ref_audit.specs.Dumped.{queued_form}
use Rattle.ref_audit.proofs.dumping.agents.queue.Given as goal

-- The forms that are made and those that are left are all of them.
abbrev pub invariant-loop-i : goal.invariant-loop-i
invariant-loop-i l = l.forms.items ++ map queued_form (drop l.i l.account.queue) ≡ map queued_form l.account.queue
