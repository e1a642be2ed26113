use Rattle.std.proofs.Common.{◌≡◌, take}
use Rattle.ref_edn.specs.Printed.{escaped}
use Rattle.ref_edn.proofs.printer.plain_len.Given as goal

abbrev pub invariant-loop-i : goal.invariant-loop-i
invariant-loop-i l = escaped (take l.i l.s) ≡ take l.i l.s
