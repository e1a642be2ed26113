use Rattle.std.proofs.Common.{◌≡◌, drop}
use Rattle.ref_edn.specs.ReadTokens.{after_digits}
use Rattle.ref_edn.proofs.token_reader.after_digits.Given as goal

abbrev pub invariant-loop-i : goal.invariant-loop-i
invariant-loop-i l = after_digits l.text ≡ after_digits (drop l.i l.text)
