-- What a call under the lock leaves in a share, and what is then known of the history that it found there.
use Rattle.std.specs.Prelude.{◌≡◌, ◌≤◌, ℕ, List, Option, Some, true, length, slice_get}
use Rattle.ref_value.specs.Edn.{Edn}
use Rattle.ref_fun.specs.Meaning.{Means}
use Rattle.ref_log.specs.Replay.{is_protected}
use Rattle.ref_log.specs.Tally.{moved_by_dones}
use Rattle.ref_log.specs.declared.counting.Side.TheVariants.{Added, Taken}
use Rattle.ref_log.specs.Watches.{notices_of}
use Rattle.ref_log.specs.declared.entries.Entry.{Entry}
use Rattle.ref_log.specs.declared.entries.Entry.TheVariants.{Atom}
use Rattle.ref_log.specs.declared.entries.Stamp.{Stamp}
use Rattle.ref_log.specs.declared.guards.Guard.{Guard}
use Rattle.ref_log.specs.declared.notices.Notice.{Notice}
use Rattle.ref_log.specs.declared.notices.Who.{Who}
use Rattle.ref_log.specs.declared.notices.Who.TheVariants as who
use Rattle.ref_log.specs.declared.operations.Op.{Op}
use Rattle.ref_log.specs.declared.states.Base.{Base}
use Rattle.ref_refs.specs.Commit.{entry_of}
use Rattle.ref_refs.specs.Watches.{notices as refs_notices, touched_refs}
use Rattle.ref_tx.specs.Inner.{inner_value}
use Rattle.ref_tx.specs.Seen.{TxSeen}
use Rattle.ref_world.specs.History.{Begins, IsCut, IsLegal, atoms_in, changed_in, point_in, refs_in, upto, with_entry}
use Rattle.ref_world.specs.Seen.{HistorySeen, ShareSeen}
use Rattle.ref_world.specs.Shares.{knowing, with_commit, with_receipt}

-- Nothing was done with a share; what is known of the history may have grown, and what was known before begins it.
pub record IsLater (old new : ShareSeen) : Type 0 where
  pub same : new ≡ knowing old new.history
  pub known : Begins old.history new.history

-- So it is, and each entry that is known was a legal step.
pub record HasLearned (means : Means) (old new : ShareSeen) : Type 0 where
  pub later : IsLater old new
  pub legal : IsLegal means new.history

-- So it is of a front.
pub record HasCaughtUp (means : Means) (old new : HistorySeen) : Type 0 where
  pub known : Begins old new
  pub legal : IsLegal means new

-- An entry stands at this point of the history, and is the last that is known. What was known begins what the lock found, and each entry was
-- a legal step on what stood before it.
pub record HasEntered (means : Means) (e : Entry) (point : ℕ) (old new : HistorySeen) : Type 0 where
  pub found : HistorySeen
  pub known : Begins old found
  pub entered : new ≡ with_entry found e
  pub at : point ≡ point_in new
  pub legal : IsLegal means new

-- One commit more, one receipt more, and of additions and takings the arguments that it commuted on the
-- tally: there is a ref's number, the same for both, of which this holds, or the tally wasn't moved. What it protects hasn't changed since its
-- read point, and it began with the values that these refs had there.
pub record HasCommitted (means : Means) (stamp : Stamp) (tx : TxSeen) (point : ℕ) (old new : ShareSeen) : Type 0 where
  pub tally : Option ℕ
  pub share : new ≡ knowing (with_commit old point (moved_by_dones Added tally tx.dones) (moved_by_dones Taken tally tx.dones)) new.history
  pub entered : HasEntered means (entry_of stamp tx) point old.history new.history
  pub began : (r : ℕ) → is_protected tx.dones r ≡ true → slice_get tx.began r ≡ slice_get (refs_in means (upto entered.found tx.read_point)) r
  pub unchanged : (r : ℕ) → is_protected tx.dones r ≡ true → changed_in entered.found r ≤ tx.read_point

-- The notices of a change of a reference: one for each of its watches, with the values before and after. There is no world to name the
-- watches by: so there are such keys.
pub record AreNotices (who : Who) (before after : Edn) (notices : List Notice) : Type 0 where
  pub keys : List Edn
  pub are : notices ≡ notices_of who keys before after

-- The notices of a commit: of each ref that the transaction changed, in order, with the values before and after, for refs with some
-- guards. After it a ref that the transaction protects has its in-transaction value.
pub record AreCommitted (means : Means) (tx : TxSeen) (notices : List Notice) : Type 0 where
  pub guards : List Guard
  pub before : List Edn
  pub after : List Edn
  pub are : notices ≡ refs_notices guards before after (touched_refs tx.dones)
  pub inner : (r : ℕ) → is_protected tx.dones r ≡ true → slice_get after r ≡ inner_value means tx r

-- One receipt more, at the point of this entry, and nothing else.
pub record HasReceipt (means : Means) (e : Entry) (old new : ShareSeen) : Type 0 where
  pub point : ℕ
  pub share : new ≡ knowing (with_receipt old point) new.history
  pub entered : HasEntered means e point old.history new.history

-- So is it of a change of an atom, which had this value at its point.
pub record HasChanged (means : Means) (a : ℕ) (op : Op) (before after : Edn) (old new : ShareSeen) : Type 0 where
  pub receipt : HasReceipt means (Atom a op after) old new
  pub had : slice_get (atoms_in means receipt.entered.found) a ≡ Some before

-- A reference was made, with this number: there were so many of its kind.
pub record HasMade (means : Means) (e : Entry) (all : HistorySeen → List Edn) (number : ℕ) (old new : HistorySeen) : Type 0 where
  pub point : ℕ
  pub entered : HasEntered means e point old new
  pub count : number ≡ length (all entered.found)

-- What the history says of the value of a reference: that of a ref or atom after all of it, and of an agent nothing.
abbrev pub IsValueIn : Means → HistorySeen → Who → Option Edn → Type 0
IsValueIn means h (who.Ref r) v = v ≡ slice_get (refs_in means h) r
IsValueIn means h (who.Atom a) v = v ≡ slice_get (atoms_in means h) a
IsValueIn means h (who.Agent g) v = Unit {0}

-- What a world was taken out with: a history of legal steps, which what was known of it begins, and of which base and log are parts.
pub record HasEnded (means : Means) (known : HistorySeen) (base : Base) (log : List Entry) : Type 0 where
  pub history : HistorySeen
  pub begins : Begins known history
  pub legal : IsLegal means history
  pub cut : IsCut means history base log
