-- When a checkpoint is refused, and what it leaves.
use Rattle.std.specs.Prelude.{ℕ, ◌-◌, nat_lt, ◌||◌, Bool, List, take, drop, Option, None, Some, if◌then◌else◌}
use Rattle.std.specs.Option.{option_or}
use Rattle.ref_fun.specs.Meaning.{Means}
use Rattle.ref_log.specs.Replay.{missing, needed}
use Rattle.ref_log.specs.declared.entries.Entry.{Entry}
use Rattle.ref_log.specs.declared.states.Base.{Base}
use Rattle.ref_world.specs.Seen.{WorldSeen}
use Rattle.ref_world.specs.World.{point_of}
use Rattle.ref_world.specs.declared.faults.CheckpointFault.{CheckpointFault}
use Rattle.ref_world.specs.declared.faults.CheckpointFault.TheVariants.{NoSuchPoint, NoSuchFun}

-- the entries up to a point, and those after it
abbrev pub folded_entries : WorldSeen → ℕ → List Entry
folded_entries world point = take (point - world.base.point) world.log

abbrev pub left_entries : WorldSeen → ℕ → List Entry
left_entries world point = drop (point - world.base.point) world.log

-- A point before the base's or after the present one isn't there.
abbrev pub no_such_point : WorldSeen → ℕ → Option CheckpointFault
no_such_point world point = if nat_lt point world.base.point || nat_lt (point_of world) point then Some NoSuchPoint else None

-- a function that the table lacks
abbrev pub lacks_fun : Option ℕ → Option CheckpointFault
lacks_fun (Some code) = Some (NoSuchFun code)
lacks_fun None = None

-- Why there is no checkpoint at a point: it isn't there, or the table lacks a function that the replay up to it calls.
abbrev pub checkpoint_refusal : Means → (ℕ → Bool) → WorldSeen → ℕ → Option CheckpointFault
checkpoint_refusal means knows world point =
    option_or (no_such_point world point) (lacks_fun (missing knows (needed means world.base (folded_entries world point))))

-- a world on this base, with the entries after the point
abbrev pub with_checkpoint : WorldSeen → ℕ → Base → WorldSeen
with_checkpoint world point base = record world { base = base; log = left_entries world point }
