use Rattle.std.proofs.Common.{◌≡◌, ◌<◌, ◌^◌, ◌+◌, length}
use Rattle.ref_log.specs.Tally.{commits_of}
use Rattle.ref_log.proofs.counting.commits_of.Given as goal

abbrev pub invariant-loop-entry : goal.invariant-loop-entry
invariant-loop-entry l = record {
  sum : l.commits + commits_of l.entry-iterator ≡ commits_of l.entries;
  bound : l.commits + length l.entry-iterator < 2 ^ 64;
}
