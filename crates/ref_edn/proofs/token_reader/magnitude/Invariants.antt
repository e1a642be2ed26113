use Rattle.std.proofs.Common.{◌≡◌, drop, IsTrue}
use Rattle.ref_edn.specs.Bytes.{all_digits, digits_value, value_after}
use Rattle.ref_edn.proofs.token_reader.magnitude.Given as goal

abbrev pub invariant-loop-b : goal.invariant-loop-b
invariant-loop-b l = record { value : digits_value l.digits ≡ value_after l.n (drop l.b-index l.digits); digits : IsTrue (all_digits (drop l.b-index l.digits)) }
