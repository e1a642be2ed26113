use Rattle.std.proofs.Common.{◌≡◌, drop}
use Rattle.ref_edn.specs.ReadParts.{after_spaces}
use Rattle.ref_edn.proofs.blanks.after_spaces.Given as goal

abbrev pub invariant-loop-i : goal.invariant-loop-i
invariant-loop-i l = after_spaces l.text ≡ after_spaces (drop l.i l.text)
