-- What a worker shows.
use Rattle.std.specs.Prelude.{◌≡◌, ℕ, []}
use Rattle.ref_log.specs.declared.entries.Stamp.{Stamp}
use Rattle.ref_world.specs.Seen.{ShareSeen}

-- its number, its next stamp, of how many workers it is one, how often it tries a transaction, the point of the latest transaction that it
-- committed, its part of the share, and its sink
pub record WorkerSeen (S : Type 0) : Type 0 where
  pub number : ℕ
  pub next : Stamp
  pub workers : ℕ
  pub tries : ℕ
  pub point : ℕ
  pub share : ShareSeen
  pub sink : S

-- With this share nothing was done.
abbrev pub HasDoneNothing : ShareSeen → Type 0
HasDoneNothing share = (share.commits ≡ 0) × (share.added ≡ 0) × (share.taken ≡ 0) × (share.receipts ≡ [])

-- The same worker, but for its stamps, its point, its share and its sink.
abbrev pub IsSameWorker : {S : Type 0} → WorkerSeen S → WorkerSeen S → Type 0
IsSameWorker old new = (new.number ≡ old.number) × (new.workers ≡ old.workers) × (new.tries ≡ old.tries)
