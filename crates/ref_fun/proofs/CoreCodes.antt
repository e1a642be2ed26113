-- Which codes are functions and predicates of Core.
use Rattle.std.proofs.Common.{◌≡◌, ℕ, ◌≤◌, ◌&&◌, true, nat_le, refl, arith}
use Rattle.std.proofs.lemmas.Bool.Decides.{nat_tests}
use Rattle.ref_fun.specs.Calls.{HasCore}
use Rattle.ref_fun.specs.Names.{is_function, is_predicate}

le_true : (a b : ℕ) → a ≤ b → nat_le a b ≡ true
le_true a b le = grind (arith, nat_tests)

within : (least most code : ℕ) → least ≤ code → code ≤ most → (nat_le least code && nat_le code most) ≡ true
within least most code low high = rw (le_true least code low, le_true code most high) refl

pub all_of_core : HasCore (record { funs = is_function; preds = is_predicate })
all_of_core = record {
  funs = λ code low high. within 1 10 code low high;
  preds = λ code low high. within 101 109 code low high;
}
