-- Making a reference.
use Rattle.std.specs.Prelude.{ℕ, nat_lt, Bool, not, if◌then◌else◌, Option, None, Some}
use Rattle.std.specs.Option.{option_map, option_or}
use Rattle.ref_value.specs.Edn.{Edn}
use Rattle.ref_fun.specs.Rule.{Accepts, passes, unknown}
use Rattle.ref_fun.specs.declared.rules.Rule.{Rule}
use Rattle.ref_log.specs.declared.faults.MakeFault.{MakeFault}
use Rattle.ref_log.specs.declared.faults.MakeFault.TheVariants.{Full, BadTally, Invalid, PointLimit, NoSuchFun}
use Rattle.ref_log.specs.Limits.{last_point, most_references}

-- The first fault of making a reference next to so many of its kind at this point, with this value and this rule, if any; as
-- a tally that can't be one or not. A rule that the table can't ask is reported first.
abbrev pub make_refusal : Accepts → (ℕ → Bool) → ℕ → Bool → ℕ → Edn → Option Rule → Option MakeFault
make_refusal accepts knows count is_bad_tally at start rule = option_or (option_map NoSuchFun (unknown knows rule)) (
    if not (nat_lt count most_references) then Some Full else
    if is_bad_tally then Some BadTally else
    if not (passes accepts rule start) then Some Invalid else
    if nat_lt last_point at then Some PointLimit else
    None)
