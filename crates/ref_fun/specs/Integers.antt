-- The functions of integers.
use Rattle.std.specs.Prelude.{◌^◌, nat_lt, ℤ, pos, negsuc, ◌+ℤ◌, ◌-ℤ◌, neg_ℤ, Bool, ◌&&◌, if◌then◌else◌, List, [], ◌∷◌, map, fold, Result, Ok, Err}
use Rattle.std.specs.List.{list_all}
use Rattle.std.specs.Int.{int_max, int_min}
use Rattle.ref_value.specs.Edn.{Edn, int}
use Rattle.ref_fun.specs.declared.faults.Cause.{Cause}
use Rattle.ref_fun.specs.declared.faults.Cause.TheVariants.{WrongKind, WrongArity, Overflow}
use Rattle.ref_fun.specs.Kinds.{is_int}

-- The integer that a value is. It is asked of integers only, and is 0 elsewhere.
abbrev pub int_of : Edn → ℤ
int_of (int n) = n
int_of x = pos 0

-- An integer of 64 bits: at least -(2^63), and less than 2^63.
abbrev pub is_i64 : ℤ → Bool
is_i64 (pos n) = nat_lt n (2 ^ 63)
is_i64 (negsuc n) = nat_lt n (2 ^ 63)

-- a number, where it has 64 bits
abbrev pub fit : ℤ → Result ℤ Cause
fit n = if is_i64 n then Ok n else Err Overflow

-- The first number and the others, each taken into the result so far, from left to right. A result on the way that
-- has more than 64 bits is an overflow, whatever the rest would make of it.
abbrev pub fold_ints : (ℤ → ℤ → ℤ) → ℤ → List ℤ → Result ℤ Cause
fold_ints f n [] = Ok n
fold_ints f n (m ∷ ms) = if is_i64 (f n m) then fold_ints f (f n m) ms else Err Overflow

abbrev pub int_value : Result ℤ Cause → Result Edn Cause
int_value (Ok n) = Ok (int n)
int_value (Err c) = Err c

-- A function of integers: state and arguments have to be integers.
abbrev pub on_ints : (ℤ → List ℤ → Result ℤ Cause) → List Edn → Edn → Result Edn Cause
on_ints f args state =
    if is_int state && list_all is_int args then int_value (f (int_of state) (map int_of args)) else Err WrongKind

-- `+`: state and arguments added up
abbrev pub plus : List Edn → Edn → Result Edn Cause
plus args state = on_ints (fold_ints (λ a b. a +ℤ b)) args state

-- `-`: the negation of the state alone; else the arguments taken off the state
abbrev pub difference : ℤ → List ℤ → Result ℤ Cause
difference n [] = fit (neg_ℤ n)
difference n (m ∷ ms) = fold_ints (λ a b. a -ℤ b) n (m ∷ ms)

abbrev pub minus : List Edn → Edn → Result Edn Cause
minus args state = on_ints difference args state

-- `inc` and `dec`: one more and one less, without an argument
abbrev pub inc : List Edn → Edn → Result Edn Cause
inc [] state = plus (int (pos 1) ∷ []) state
inc (x ∷ xs) state = Err WrongArity

abbrev pub dec : List Edn → Edn → Result Edn Cause
dec [] state = minus (int (pos 1) ∷ []) state
dec (x ∷ xs) state = Err WrongArity

-- `max` and `min`: the greatest and the least of state and arguments
abbrev pub greatest : List Edn → Edn → Result Edn Cause
greatest args state = on_ints (λ n ms. Ok (fold int_max n ms)) args state

abbrev pub least : List Edn → Edn → Result Edn Cause
least args state = on_ints (λ n ms. Ok (fold int_min n ms)) args state
