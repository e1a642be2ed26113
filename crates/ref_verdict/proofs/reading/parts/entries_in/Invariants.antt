use Rattle.std.proofs.Common.{◌≡◌, ◌+◌, drop, length}
use Rattle.ref_verdict.specs.DumpForm.{entries_from}
use Rattle.ref_verdict.proofs.Lists.{entries_in_front}
use Rattle.ref_verdict.proofs.reading.parts.entries_in.Given as goal

-- What was read, with what is left, is what all forms say.
abbrev pub invariant-loop-i : goal.invariant-loop-i
invariant-loop-i l = record {
  all : entries_in_front l.entries (entries_from l.version (l.i + 1) (drop l.i l.forms)) ≡ entries_from l.version 1 l.forms;
  count : length l.entries ≡ l.i;
}
