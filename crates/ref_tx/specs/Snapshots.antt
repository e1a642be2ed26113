-- What a snapshot shows.
use Rattle.std.specs.Prelude.{ℕ, List, map}
use Rattle.ref_value.specs.Edn.{Edn}
use Rattle.ref_tx.specs.declared.snapshots.Version.{Version}

-- The values of the refs by number, and the point of each ref's last change: 0 where it was declared at the start and never
-- changed.
pub record SnapshotSeen : Type 0 where
  pub values : List Edn
  pub lasts : List ℕ

abbrev pub values_of : List Version → List Edn
values_of = map (λ v. v.value)

abbrev pub changes_of : List Version → List ℕ
changes_of = map (λ v. v.changed_at)
