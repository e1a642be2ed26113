-- The calls of a transaction's body.
use Rattle.std.specs.Prelude.{◌≡◌, ℕ, ◌+◌, ◌≤◌, true, List, [], ◌∷◌, length, Result, Err}
use Rattle.std.specs.Fn.{Mut, CalledAtMut}
use Rattle.std.specs.List.{All}
use Rattle.std.specs.Borrow.{MutBor}
use Rattle.std.specs.Result.{is_ok}
use Rattle.ref_fun.specs.Meaning.{Means}
use Rattle.ref_log.specs.declared.entries.Stamp.{Stamp}
use Rattle.ref_refs.specs.Conflicts.{IsConflictOf}
use Rattle.ref_refs.specs.declared.faults.Conflict.{Conflict}
use Rattle.ref_refs.specs.declared.faults.CommitFault.{CommitFault}
use Rattle.ref_refs.specs.declared.faults.CommitFault.TheVariants as commits
use Rattle.ref_tx.specs.Seen.{TxSeen}
use Rattle.ref_world.specs.History.{Begins, IsLegal, changed_in, point_in, refs_in}
use Rattle.ref_world.specs.Seen.{HistorySeen, ShareSeen}
use Rattle.ref_shared.specs.Commits.{HasCommitted}
use Rattle.ref_shared.specs.declared.faults.TransactFault.{TransactFault}
use Rattle.ref_shared.specs.declared.faults.TransactFault.TheVariants.{GaveUp, Body, Commit, Memory}

-- What a call of a body may do: the body before it, the transaction that it gets, what it answers, the transaction that it leaves, and the
-- body after it.
abbrev pub Doing : Type 0 → Type 0 → Type 1
Doing B R = B → TxSeen → R → TxSeen → B → Type 0

-- that of a closure over a transaction
abbrev pub calls_of : {B R : Type 0} → Mut B (MutBor TxSeen × Unit {0}) (R × (MutBor TxSeen × Unit {0})) → Doing B R
calls_of g before began answer left after = CalledAtMut g before began answer after left

-- a call of a body: the transaction that it got, what it answered, and the transaction that it left
pub record Call (R : Type 0) : Type 0 where
  pub began : TxSeen
  pub answer : R
  pub left : TxSeen

-- a transaction in which nothing was done yet
pub record IsFresh (tx : TxSeen) : Type 0 where
  pub dones : tx.dones ≡ []
  pub sends : tx.sends ≡ []

-- A transaction began with the values after a beginning of the history that is known, each entry of which was a legal step.
pub record HasBegun (means : Means) (known : HistorySeen) (tx : TxSeen) : Type 0 where
  pub at : HistorySeen
  pub begins : Begins at known
  pub legal : IsLegal means at
  pub read : tx.read_point ≡ point_in at
  pub values : tx.began ≡ refs_in means at

-- what a call of a body does that gets a transaction which began there
abbrev pub seeing : {B R : Type 0} → Means → HistorySeen → Doing B R → Doing B R
seeing means known does before began answer left after = does before began answer left after × HasBegun means known began

-- The body, called so, may answer so: it gets a fresh transaction.
pub record Calls {B R : Type 0} (does : Doing B R) (before : B) (call : Call R) (after : B) : Type 0 where
  pub fresh : IsFresh call.began
  pub called : does before call.began call.answer call.left after

-- the calls of the body, the latest first, that took it from one state to another, each from where the one before it left it
abbrev pub Called : {B R : Type 0} → Doing B R → B → List (Call R) → B → Type 0
Called does first [] last = first ≡ last
Called {B} does first (call ∷ earlier) last = (between : B) × Called does first earlier between × Calls does between call last

-- The commit of what a call left was in conflict, as a beginning of the history that is known shows.
pub record WasInConflict {R : Type 0} (known : HistorySeen) (call : Call R) : Type 0 where
  pub conflict : Conflict
  pub at : HistorySeen
  pub begins : Begins at known
  pub fits : IsConflictOf call.left (changed_in at) conflict

-- A call after which the body is called again: it answered a value, and the commit of what it left was in conflict.
pub record IsRetried {T E : Type 0} (known : HistorySeen) (call : Call (Result T E)) : Type 0 where
  pub answered : is_ok call.answer ≡ true
  pub conflict : WasInConflict known call

-- all calls but the latest
abbrev pub earlier_of : {R : Type 0} → List (Call R) → List (Call R)
earlier_of [] = []
earlier_of (call ∷ earlier) = earlier

-- These are all calls of the body that there were, and at most so many. Each got a transaction that began with the values after a beginning
-- of the history that is known. Each but the last ended in a conflict.
pub record AllCalls {B T E : Type 0} (means : Means) (known : HistorySeen) (does : Doing B (Result T E)) (body last : B) (calls : List (Call (Result T E))) (tries : ℕ) : Type 0 where
  pub called : Called (seeing means known does) body calls last
  pub few : length calls ≤ tries
  pub retried : All (IsRetried known) (earlier_of calls)

-- The last call of the body answered so, and what it left was committed.
pub record Committed {B T E : Type 0} (means : Means) (does : Doing B (Result T E)) (body last : B) (tries : ℕ) (answer : Result T E) (stamp : Stamp) (point : ℕ) (old new : ShareSeen) : Type 0 where
  pub call : Call (Result T E)
  pub earlier : List (Call (Result T E))
  pub calls : AllCalls means new.history does body last (call ∷ earlier) tries
  pub answered : call.answer ≡ answer
  pub landed : HasCommitted means stamp call.left point old new

-- a fault of a commit that ends a transaction as such: neither a conflict nor out of memory
abbrev pub IsFinal : CommitFault → Type 0
IsFinal (commits.Foreign what) = Unit {0}
IsFinal (commits.Conflict c) = ⊥
IsFinal (commits.Refused r cause) = Unit {0}
IsFinal (commits.Invalid r) = Unit {0}
IsFinal commits.PointLimit = Unit {0}
IsFinal commits.BookFull = Unit {0}
IsFinal commits.Memory = ⊥
IsFinal (commits.NoSuchFun code) = Unit {0}

-- When a transaction's faults come: giving up after all tries, with a conflict of what the last call left, as the history shows that is known
-- then; a body's fault as the last call answered; a commit's fault behind a last call that answered a value.
abbrev pub FaultComes : {B T E : Type 0} → Means → HistorySeen → Doing B (Result T E) → B → B → ℕ → TransactFault E → Type 0
FaultComes {B} {T} {E} means known does body last tries (GaveUp n conflict) =
    (call : Call (Result T E)) × (earlier : List (Call (Result T E))) × AllCalls means known does body last (call ∷ earlier) tries
    × (is_ok call.answer ≡ true) × (n ≡ tries) × (length earlier + 1 ≡ tries) × IsConflictOf call.left (changed_in known) conflict
FaultComes {B} {T} {E} means known does body last tries (Body e) =
    (call : Call (Result T E)) × (earlier : List (Call (Result T E))) × AllCalls means known does body last (call ∷ earlier) tries
    × (call.answer ≡ Err e)
FaultComes {B} {T} {E} means known does body last tries (Commit fault) =
    (call : Call (Result T E)) × (earlier : List (Call (Result T E))) × AllCalls means known does body last (call ∷ earlier) tries
    × (is_ok call.answer ≡ true) × IsFinal fault
FaultComes {B} {T} {E} means known does body last tries Memory =
    (calls : List (Call (Result T E))) × AllCalls means known does body last calls tries
