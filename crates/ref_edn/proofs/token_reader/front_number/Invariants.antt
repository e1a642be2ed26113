use Rattle.std.proofs.Common.{◌≡◌, drop}
use Rattle.ref_edn.specs.Fronts.{front_value}
use Rattle.ref_edn.specs.ReadTokens.{after_digits}
use Rattle.ref_edn.proofs.token_reader.front_number.Given as goal

abbrev pub invariant-loop-i : goal.invariant-loop-i
invariant-loop-i l = record { number : front_value 0 l.text ≡ front_value l.n (drop l.i l.text); rest : after_digits l.text ≡ after_digits (drop l.i l.text) }
