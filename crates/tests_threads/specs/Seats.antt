-- Tries to sell a seat, in transactions. Ref 0 holds how many seats are free.
use Rattle.std.specs.Prelude.{◌≡◌, ◌≤◌, ◌+◌, ◌-◌, ◌*◌, ◌==◌, ◌&&◌, ℕ, pos, negsuc, min, Bool, true, false, if◌then◌else◌, List, [], ◌∷◌, Some, Result, Ok, IfOk, slice_get}
use Rattle.ref_value.specs.Edn.{Edn, int}
use Rattle.ref_fun.specs.Core.{core_means}
use Rattle.ref_log.specs.Replay.{is_ensure}
use Rattle.ref_log.specs.Tally.{commits_of}
use Rattle.ref_log.specs.declared.entries.Entry.{Entry}
use Rattle.ref_log.specs.declared.entries.Entry.TheVariants.{Trans, Atom, MadeRef, MadeAtom}
use Rattle.ref_log.specs.declared.operations.Done.{Done}
use Rattle.ref_log.specs.declared.operations.Op.{Op}
use Rattle.ref_log.specs.declared.operations.Op.TheVariants.{Set, Alter, Commute, Ensure}
use Rattle.ref_log.specs.declared.states.PlainState.{PlainState}
use Rattle.ref_tx.specs.Seen.{TxSeen}
use Rattle.ref_tx.specs.declared.faults.TxFault.{TxFault}
use Rattle.ref_world.specs.History.{Begins, state_in}
use Rattle.ref_world.specs.Seen.{HistorySeen, ShareSeen}
use Rattle.ref_world.specs.Shares.{all_parts, whole}

-- ---- a try

-- `alter` with `-` and 1
abbrev pub is_one : List Edn → Bool
is_one (int (pos n) ∷ []) = n == 1
is_one args = false

abbrev pub takes_one : Op → Bool
takes_one (Set w) = false
takes_one (Alter code args) = (code == 2) && is_one args
takes_one (Commute code args) = false
takes_one Ensure = false

-- a number of seats, which may be 0
abbrev pub is_number : Edn → Bool
is_number (int (pos n)) = true
is_number v = false

-- no seats
abbrev pub is_nothing : Edn → Bool
is_nothing (int (pos n)) = n == 0
is_nothing (int (negsuc n)) = true
is_nothing v = false

-- An operation that takes one of the free seats, or one that ensures that none is free.
abbrev pub is_try : Bool → Done → Bool
is_try true d = (d.r == 0) && takes_one d.op && is_number d.answer
is_try false d = (d.r == 0) && is_ensure d.op && is_nothing d.answer

-- A transaction that tries to sell a seat has one of these operations, and no other: the first if it sells one, the second if not.
abbrev pub are_try : Bool → List Done → Bool
are_try sold [] = false
are_try sold (d ∷ []) = is_try sold d
are_try sold (d ∷ e ∷ ds) = false

-- what the body of such a transaction does, where nothing was done before: it answers whether it sells a seat
abbrev pub DoesTry : TxSeen → Result Bool TxFault → TxSeen → Type 0
DoesTry began answer left = began.dones ≡ [] → IfOk answer (λ sold. are_try sold left.dones ≡ true)

-- ---- tries in a history

abbrev pub tries_in : Bool → Entry → ℕ
tries_in sold (Trans t) = if are_try sold t.dones then 1 else 0
tries_in sold (Atom a op answer) = 0
tries_in sold (MadeRef v) = 0
tries_in sold (MadeAtom v) = 0

abbrev pub is_by : ℕ → Entry → Bool
is_by worker (Trans t) = t.stamp.worker == worker
is_by worker (Atom a op answer) = false
is_by worker (MadeRef v) = false
is_by worker (MadeAtom v) = false

-- how many tries there are, those that sold a seat or those that didn't
abbrev pub tries_of : Bool → List Entry → ℕ
tries_of sold [] = 0
tries_of sold (e ∷ es) = tries_in sold e + tries_of sold es

-- and how many of a worker
abbrev pub tries_by : ℕ → Bool → List Entry → ℕ
tries_by worker sold [] = 0
tries_by worker sold (e ∷ es) = (if is_by worker e then tries_in sold e else 0) + tries_by worker sold es

-- ---- what threads leave in their shares

-- A commit more, which is a try of this worker, and stands in the history behind all that was known.
pub record HasTried (worker : ℕ) (sold : Bool) (old new : ShareSeen) : Type 0 where
  pub commits : new.commits ≡ old.commits + 1
  pub parts : new.parts ≡ old.parts
  pub begins : Begins old.history new.history
  pub tries : tries_by worker sold old.history.entries + 1 ≤ tries_by worker sold new.history.entries

-- So many commits more. The history has as many tries of this worker, so many of which sold a seat.
pub record HasSold (worker tries sold : ℕ) (old new : ShareSeen) : Type 0 where
  pub commits : new.commits ≡ old.commits + tries
  pub parts : new.parts ≡ old.parts
  pub begins : Begins old.history new.history
  pub sales : sold ≤ tries_by worker true new.history.entries
  pub misses : tries ≤ sold + tries_by worker false new.history.entries

-- What both leave together, the workers 0 and 1: all parts, and all commits.
pub record HaveSold (tries first second : ℕ) (known : HistorySeen) (share : ShareSeen) : Type 0 where
  pub commits : share.commits ≡ 2 * tries
  pub parts : share.parts ≡ all_parts
  pub begins : Begins known share.history
  pub sales : first + second ≤ tries_by 0 true share.history.entries + tries_by 1 true share.history.entries
  pub misses : 2 * tries ≤ first + second + tries_by 0 false share.history.entries + tries_by 1 false share.history.entries

-- ---- a world with so many free seats, and what it comes to

-- The share is whole, and knows that the world began with so many free seats.
pub record IsOpen (seats : ℕ) (share : ShareSeen) : Type 0 where
  pub fresh : share ≡ whole share.history
  pub free : slice_get share.history.start.refs 0 ≡ Some (int (pos seats))
  pub commits : share.history.start.commits ≡ 0

-- The refs of a world have the values after its whole history, which what was known begins, and which has so many commits.
pub record CameTo (known : HistorySeen) (commits : ℕ) (values : List Edn) : Type 0 where
  pub history : HistorySeen
  pub begins : Begins known history
  pub count : history.start.commits + commits_of history.entries ≡ commits
  pub after : PlainState
  pub replayed : state_in core_means history ≡ Ok after
  pub refs : after.refs ≡ values

-- As many seats are sold as are tried for and are there, and so many fewer are left.
pub record IsSoldOut (seats tries first second commits : ℕ) (values : List Edn) : Type 0 where
  pub left : slice_get values 0 ≡ Some (int (pos (seats - 2 * tries)))
  pub sold : first + second ≡ min seats (2 * tries)
  pub count : commits ≡ 2 * tries
