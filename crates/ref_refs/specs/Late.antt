-- Changes of refs that a snapshot has yet to take, the latest first.
use Rattle.std.specs.Prelude.{ℕ, ◌==◌, if◌then◌else◌, List, [], ◌∷◌, Option, None, Some, slice_set}
use Rattle.ref_tx.specs.Snapshots.{SnapshotSeen}
use Rattle.ref_tx.specs.declared.snapshots.Version.{Version}
use Rattle.ref_refs.specs.declared.late.Item.{Item}

-- the refs after one change
abbrev pub taken : SnapshotSeen → Item → SnapshotSeen
taken s i = record { values = slice_set s.values i.r i.version.value; lasts = slice_set s.lasts i.r i.version.changed_at }

-- and after all of them
abbrev pub all_taken : List Item → SnapshotSeen → SnapshotSeen
all_taken [] s = s
all_taken (i ∷ is) s = taken (all_taken is s) i

-- the latest version of a ref among them
abbrev pub latest_of : List Item → ℕ → Option Version
latest_of [] r = None
latest_of (i ∷ is) r = if i.r == r then Some i.version else latest_of is r
