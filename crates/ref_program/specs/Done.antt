-- What the workers of a run have done, taken together.
use Rattle.std.specs.Prelude.{◌≡◌, ◌<◌, ◌+◌, ◌*◌, ◌++◌, ℕ, zero, suc, List, [], ◌∷◌}
use Rattle.std.specs.List.{All}
use Rattle.ref_fun.specs.Meaning.{Means}
use Rattle.ref_log.specs.declared.entries.Entry.{Entry}
use Rattle.ref_log.specs.declared.states.Base.{Base}
use Rattle.ref_program.specs.Seen.{HasDoneNothing}
use Rattle.ref_shared.specs.Commits.{HasEnded}
use Rattle.ref_shared.specs.Gather.{InOrder, ReceiptsMatch}
use Rattle.ref_world.specs.History.{Begins}
use Rattle.ref_world.specs.Seen.{ShareSeen}
use Rattle.ref_world.specs.declared.worlds.Totals.{Totals}

-- What was done with two shares is what was done with this one, and it knows of the history what either knew.
pub record AreTogether (one other all : ShareSeen) : Type 0 where
  pub commits : all.commits ≡ one.commits + other.commits
  pub added : all.added ≡ one.added + other.added
  pub taken : all.taken ≡ one.taken + other.taken
  pub receipts : all.receipts ≡ one.receipts ++ other.receipts
  pub known : Begins one.history all.history × Begins other.history all.history

-- The workers of the numbers below this one have done this, each by a share, and together what was done with this share.
abbrev pub HaveDone : (ℕ → ShareSeen → Type 0) → ℕ → ShareSeen → Type 0
HaveDone did zero all = HasDoneNothing all
HaveDone did (suc n) all = (s : ShareSeen) × (before : ShareSeen) × HaveDone did n before × did n s × AreTogether before s all

-- What comes of a run: what all workers have done together is what the totals say, and its receipts are just the points of the entries after
-- the base, each once. All that a worker knows begins one history of legal steps, of which base and log are parts. The steps of each number
-- rise along the log, and each transaction began when the one before it was there.
pub record HaveRun (means : Means) (did : ℕ → ShareSeen → Type 0) (workers : ℕ) (totals : Totals) (base : Base) (log : List Entry) : Type 0 where
  pub all : ShareSeen
  pub done : HaveDone did workers all
  pub sums : (totals.commits ≡ all.commits) × (totals.added ≡ all.added) × (totals.taken ≡ all.taken)
  pub receipts : ReceiptsMatch base.point log all.receipts
  pub order : InOrder base.point log
  pub ended : HasEnded means all.history base log

-- Where each worker does as much, all do so many times as much.
abbrev pub IsEach : (ℕ → ShareSeen → Type 0) → ℕ → (ShareSeen → ℕ) → ℕ → Type 0
IsEach did workers part total =
    (k : ℕ) → ((i : ℕ) (s : ShareSeen) → i < workers → did i s → part s ≡ k) → total ≡ workers * k

-- ---- within a run

-- shares of one part each, with which nothing was done
abbrev pub AreFresh : List ShareSeen → Type 0
AreFresh parts = All (λ s. HasDoneNothing s × (s.parts ≡ 1)) parts

-- the numbers from this one on
abbrev pub AreNumbers : ℕ → List ℕ → Type 0
AreNumbers first [] = Unit {0}
AreNumbers first (n ∷ numbers) = (n ≡ first) × AreNumbers (first + 1) numbers

-- The worker of this number and those after it have done this, each by the share in its place, which has one part.
abbrev pub AreLeft : (ℕ → ShareSeen → Type 0) → ℕ → List ShareSeen → Type 0
AreLeft did number [] = Unit {0}
AreLeft did number (s ∷ shares) = (did number s × (s.parts ≡ 1)) × AreLeft did (number + 1) shares
