use Rattle.std.proofs.Common.{◌≡◌}
use Rattle.ref_audit.specs.Dumped.{least, lesser, unnamed_in_entry}
use Rattle.ref_audit.proofs.dumping.unnamed.least_in_log.Given as goal

-- What is found and the least of what is left make the least of all.
abbrev pub invariant-loop-entry : goal.invariant-loop-entry
invariant-loop-entry l = lesser l.found (least unnamed_in_entry l.entry-iterator) ≡ least unnamed_in_entry l.log
