use Rattle.std.proofs.Common.{◌≡◌}
use Rattle.std.specs.List.{list_all}
use Rattle.ref_audit.specs.OwnDump.{is_small_entry}
use Rattle.ref_audit.proofs.own_audit.parts.tell_entries.Given as goal

abbrev pub invariant-loop-entry : goal.invariant-loop-entry
invariant-loop-entry l = list_all is_small_entry l.entry-iterator ≡ list_all is_small_entry l.entries
