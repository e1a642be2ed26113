use Rattle.std.proofs.Common.{◌≡◌, ◌++◌, length, take}
use Rattle.ref_edn.specs.Printed.{escaped}
use Rattle.ref_edn.proofs.printer.append_escaped.Given as goal

-- What is printed, and what is left to print, are the whole text.
abbrev pub invariant-loop-b : goal.invariant-loop-b
invariant-loop-b l = record {
  whole : l.out.items ++ escaped l.rest ≡ l.fn.out.items ++ escaped l.s;
  kept : take (length l.fn.out.items) l.out.items ≡ l.fn.out.items;
}

abbrev pub decreases-loop-b : goal.decreases-loop-b
decreases-loop-b l = length l.rest
