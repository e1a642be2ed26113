-- What calls of stored functions and predicates may answer.
use Rattle.std.specs.Prelude.{◌≡◌, ◌==◌, ◌<◌, ◌≤◌, ℕ, Bool, true, false, cond, if◌then◌else◌, Option, None, Some, Result, Ok, Err, refl}
use Rattle.std.specs.Coded.{Coded, Coded-set, Unit-prop, code_by, coded_result, coded_ℕ}
use Rattle.ref_value.specs.Edn.{Edn}
use Rattle.ref_value.specs.Code.{edn_code}
use Rattle.ref_fun.specs.Cause.{cause_number}
use Rattle.ref_fun.specs.Meaning.{Answers}
use Rattle.ref_fun.specs.declared.faults.Cause.{Cause}
use Rattle.ref_fun.specs.declared.faults.Cause.TheVariants.{WrongKind, WrongArity, Overflow, TooDeep}
use Rattle.ref_fun.specs.declared.faults.FunFault.{FunFault}
use Rattle.ref_fun.specs.declared.faults.FunFault.TheVariants as answers
use Rattle.ref_fun.specs.declared.faults.CallFault.{CallFault}
use Rattle.ref_fun.specs.declared.faults.CallFault.TheVariants as calls
use Rattle.ref_fun.specs.declared.faults.AddFault.{AddFault}
use Rattle.ref_fun.specs.declared.faults.AddFault.TheVariants as adds
use Rattle.ref_fun.specs.Limits.{most_functions}

-- The functions and the predicates that a table has, by their codes.
pub record Known : Type 0 where
  pub funs : ℕ → Bool
  pub preds : ℕ → Bool

-- ---- answers

-- A cause is coded as its number.
abbrev numbered_cause : ℕ → Cause
numbered_cause n = cond (n == 1) WrongKind (cond (n == 2) WrongArity (cond (n == 3) Overflow TooDeep))

numbered_cause-cause_number : (c : Cause) → numbered_cause (cause_number c) ≡ c
numbered_cause-cause_number WrongKind = refl
numbered_cause-cause_number WrongArity = refl
numbered_cause-cause_number Overflow = refl
numbered_cause-cause_number TooDeep = refl

abbrev meant_code : Coded (Result Edn Cause)
meant_code = coded_result edn_code (code_by ℕ coded_ℕ cause_number numbered_cause numbered_cause-cause_number)

-- There is at most one proof that a call answers what is meant.
pub Answers-prop : (meant : Result Edn Cause) (result : Result Edn FunFault) → IsProp (Answers meant result)
Answers-prop meant (Ok v) = Coded-set meant_code meant (Ok v)
Answers-prop meant (Err (answers.Refused c)) = Coded-set meant_code meant (Err c)
Answers-prop meant (Err answers.Memory) = Unit-prop

-- A call by a code, in a table that has it or not: it gives the value that is meant or refuses for the cause that is
-- meant, exactly where the table has the code. Where memory is refused it may say so in place of either.
abbrev pub CallAnswers : Bool → ℕ → Result Edn Cause → Result Edn CallFault → Type 0
CallAnswers has code meant (Ok v) = (has ≡ true) × (meant ≡ Ok v)
CallAnswers has code meant (Err (calls.NoSuchFun c)) = (has ≡ false) × (c ≡ code)
CallAnswers has code meant (Err (calls.Refused c)) = (has ≡ true) × (meant ≡ Err c)
CallAnswers has code meant (Err calls.Memory) = has ≡ true

-- The fault of a call by a code, where the function that has it gave no value.
abbrev pub call_fault_of : FunFault → CallFault
call_fault_of (answers.Refused c) = calls.Refused c
call_fault_of answers.Memory = calls.Memory

-- A test by a code, in a table that has it or not.
abbrev pub tested : Bool → Bool → Option Bool
tested has accepted = if has then Some accepted else None

-- ---- a closure more

-- Whether a table takes a closure, where its code is taken or not and there are so many of its kind. It takes so many
-- of a kind, and reports a taken code first.
abbrev pub HasRoom : Bool → ℕ → Type 0
HasRoom taken count = (taken ≡ false) × (count < most_functions)

abbrev pub AddFaultComes : Bool → ℕ → AddFault → Type 0
AddFaultComes taken count adds.Taken = taken ≡ true
AddFaultComes taken count adds.Full = (taken ≡ false) × (count ≡ most_functions)
AddFaultComes taken count adds.Memory = HasRoom taken count

-- ---- a table of Core

-- A table has all functions of Core, and all its predicates.
pub record HasCore (knows : Known) : Type 0 where
  pub funs : (code : ℕ) → 1 ≤ code → code ≤ 10 → knows.funs code ≡ true
  pub preds : (code : ℕ) → 101 ≤ code → code ≤ 109 → knows.preds code ≡ true
