-- The numbers of the causes.
use Rattle.std.specs.Prelude.{ℕ}
use Rattle.ref_fun.specs.declared.faults.Cause.{Cause}
use Rattle.ref_fun.specs.declared.faults.Cause.TheVariants.{WrongKind, WrongArity, Overflow, TooDeep}

abbrev pub cause_number : Cause → ℕ
cause_number WrongKind = 1
cause_number WrongArity = 2
cause_number Overflow = 3
cause_number TooDeep = 4
