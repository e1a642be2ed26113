use Rattle.std.proofs.Common.{◌≡◌}
use Rattle.std.specs.List.{list_all}
use Rattle.ref_verdict.specs.Verdict.{fits_entry}
use Rattle.ref_verdict.proofs.verdicts.counts.fit_entries.Given as goal

abbrev pub invariant-loop-entry : goal.invariant-loop-entry
invariant-loop-entry l = list_all (fits_entry l.version l.tally) l.entry-iterator ≡ list_all (fits_entry l.version l.tally) l.entries
