use Rattle.std.proofs.Common.{◌≡◌, ◌++◌, map}
use Rattle.ref_audit.specs.Dumped.{entry_form}
use Rattle.ref_audit.proofs.dumping.forms.vector_of_entries.Given as goal

-- The forms that are made and those that are left are all of them.
abbrev pub invariant-loop-entry : goal.invariant-loop-entry
invariant-loop-entry l = l.forms.items ++ map entry_form l.entry-iterator ≡ map entry_form l.log
