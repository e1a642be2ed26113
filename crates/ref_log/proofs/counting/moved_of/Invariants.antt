use Rattle.std.proofs.Common.{◌≡◌, ◌+◌}
use Rattle.ref_log.specs.Tally.{moved_of}
use Rattle.ref_log.proofs.counting.moved_of.Given as goal

abbrev pub invariant-loop-entry : goal.invariant-loop-entry
invariant-loop-entry l = l.sum + moved_of l.side l.tally l.entry-iterator ≡ moved_of l.side l.tally l.entries
