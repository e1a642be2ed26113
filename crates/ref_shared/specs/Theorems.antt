-- Laws of what threads commit.
use Rattle.std.specs.Prelude.{◌≡◌, ℕ, true, slice_get}
use Rattle.ref_fun.specs.Meaning.{Means}
use Rattle.ref_log.specs.Replay.{is_protected}
use Rattle.ref_log.specs.declared.entries.Stamp.{Stamp}
use Rattle.ref_tx.specs.Seen.{TxSeen}
use Rattle.ref_world.specs.History.{refs_in}
use Rattle.ref_world.specs.Seen.{ShareSeen}
use Rattle.ref_shared.specs.Commits.{HasCommitted}

-- A transaction that was committed began, of each ref that it protects, with the value which the entries right before its own left. So what
-- others changed before it isn't lost by it, and it answers nothing that wasn't so.
abbrev pub NoUpdateIsLost : Means → Type 0
NoUpdateIsLost means = (stamp : Stamp) (tx : TxSeen) (point : ℕ) (old new : ShareSeen) (is : HasCommitted means stamp tx point old new) (r : ℕ)
    → is_protected tx.dones r ≡ true → slice_get tx.began r ≡ slice_get (refs_in means is.entered.found) r
