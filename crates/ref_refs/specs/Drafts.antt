-- What a draft of the refs shows: the refs that it is made over, and the refs after its changes.
use Rattle.std.specs.Prelude.{ℕ, List}
use Rattle.ref_value.specs.Edn.{Edn}
use Rattle.ref_tx.specs.Snapshots.{SnapshotSeen}

pub record DraftSeen : Type 0 where
  pub base : SnapshotSeen
  pub values : List Edn
  pub lasts : List ℕ
