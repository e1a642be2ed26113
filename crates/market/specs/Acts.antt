-- What the codes of the box office mean. Its functions change the number of tickets that are left.
--
--   code  function  arguments             tickets    gives
--   1     Add       as of Core's `+`
--   2     Take      as of Core's `-`
--   3     Sell      an integer from 1 to 4  integer  so many fewer
--   4     Close     none                  integer    0
--
-- Predicate 1 accepts an integer of 0 or more, without an argument. Other codes have no function, and accept nothing.
use Rattle.std.specs.Prelude.{◌≡◌, ℕ, ℤ, pos, int_le, ◌==◌, ◌&&◌, Bool, false, is_some, if◌then◌else◌, List, [], ◌∷◌, Option, None, Some, Result, Ok, Err}
use Rattle.ref_value.specs.Edn.{Edn, int}
use Rattle.ref_fun.specs.Calls.{Known}
use Rattle.ref_fun.specs.Core.{core_adds, core_means, core_takes}
use Rattle.ref_fun.specs.Integers.{minus, plus}
use Rattle.ref_fun.specs.declared.faults.Cause.{Cause}
use Rattle.ref_fun.specs.declared.faults.Cause.TheVariants.{WrongKind, WrongArity}
use Rattle.market.specs.declared.acts.Act.{Act}
use Rattle.market.specs.declared.acts.Act.TheVariants.{Add, Take, Sell, Close}

abbrev pub act_of : ℕ → Option Act
act_of code = if code == 1 then Some Add else if code == 2 then Some Take else if code == 3 then Some Sell else if code == 4 then Some Close else None

-- the one argument of a sale: how many tickets a group takes
abbrev pub is_group : List Edn → Bool
is_group (int n ∷ []) = int_le (pos 1) n && int_le n (pos 4)
is_group args = false

abbrev pub closed : List Edn → Edn → Result Edn Cause
closed [] (int n) = Ok (int (pos 0))
closed args state = Err WrongKind

abbrev pub done : Act → List Edn → Edn → Result Edn Cause
done Add args state = core_means 1 args state
done Take args state = core_means 2 args state
done Sell args state = if is_group args then core_means 2 args state else Err WrongKind
done Close args state = closed args state

abbrev pub done_by : Option Act → List Edn → Edn → Result Edn Cause
done_by None args state = Err WrongArity
done_by (Some act) args state = done act args state

abbrev pub act_means : ℕ → List Edn → Edn → Result Edn Cause
act_means code args state = done_by (act_of code) args state

-- code 1 adds and code 2 takes, as every meaning has to mean by them
pub act_adds : (a b : ℤ) → act_means 1 (int b ∷ []) (int a) ≡ plus (int b ∷ []) (int a)
act_adds a b = core_adds a b

pub act_takes : (a b : ℤ) → act_means 2 (int b ∷ []) (int a) ≡ minus (int b ∷ []) (int a)
act_takes a b = core_takes a b

abbrev pub is_left : List Edn → Edn → Bool
is_left [] (int n) = int_le (pos 0) n
is_left args x = false

abbrev pub act_accepts : ℕ → List Edn → Edn → Bool
act_accepts code args state = if code == 1 then is_left args state else false

-- what the table has: all of these
abbrev pub all_acts : Known
all_acts = record { funs = λ code. is_some (act_of code); preds = λ code. code == 1 }
