-- Of one pass over operations: the smaller of two refs, and which ref is known already.
use Rattle.std.specs.Prelude.{ℕ, ◌==◌, ◌&&◌, nat_lt, not, Bool, false, if◌then◌else◌, Option, None, Some}
use Rattle.ref_log.specs.Replay.{is_commute}
use Rattle.ref_log.specs.declared.operations.Done.{Done}

-- the smaller of two numbers, the first of which may be missing
abbrev pub smaller : Option ℕ → ℕ → ℕ
smaller None r = r
smaller (Some first) r = if nat_lt first r then first else r

abbrev pub is_this : Option ℕ → ℕ → Bool
is_this None r = false
is_this (Some known) r = known == r

-- whether an operation protects a ref, and another one than the known one
abbrev pub is_new : Option ℕ → Done → Bool
is_new known done = not (is_commute done.op) && not (is_this known done.r)

-- the ref that is known after an operation: the one that it protects, if it protects one
abbrev pub known_after : Option ℕ → Done → Option ℕ
known_after known done = if is_commute done.op then known else Some done.r
