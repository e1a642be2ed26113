-- What a call of a function may answer.
use Rattle.std.specs.Prelude.{◌≡◌, ℕ, List, Result, Ok, Err}
use Rattle.ref_value.specs.Edn.{Edn}
use Rattle.ref_fun.specs.declared.faults.Cause.{Cause}
use Rattle.ref_fun.specs.declared.faults.FunFault.{FunFault}
use Rattle.ref_fun.specs.declared.faults.FunFault.TheVariants.{Refused, Memory}

-- What codes mean: for a code, the arguments and the state, the value or the cause of a refusal.
abbrev pub Means : Type 0
Means = ℕ → List Edn → Edn → Result Edn Cause

-- A call gives the value that its meaning gives and refuses for its cause; where memory is refused it may say so in place of either.
abbrev pub Answers : Result Edn Cause → Result Edn FunFault → Type 0
Answers meant (Ok v) = meant ≡ Ok v
Answers meant (Err (Refused c)) = meant ≡ Err c
Answers meant (Err Memory) = Unit {0}
