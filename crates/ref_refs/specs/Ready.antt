-- A commit that was tested, and what its tests found.
use Rattle.std.specs.Prelude.{◌≡◌, ◌≤◌, ℕ, true, List, Ok, None, length, slice_get}
use Rattle.ref_value.specs.Edn.{Edn}
use Rattle.ref_fun.specs.Calls.{Known}
use Rattle.ref_fun.specs.Meaning.{Means}
use Rattle.ref_fun.specs.Rule.{Accepts}
use Rattle.ref_log.specs.Guards.{AreAccepted}
use Rattle.ref_log.specs.Limits.{last_point}
use Rattle.ref_log.specs.Replay.{after_dones, is_protected, step}
use Rattle.ref_log.specs.Tally.{fit_tally, moved_by_dones}
use Rattle.ref_log.specs.declared.counting.Side.TheVariants.{Added, Taken}
use Rattle.ref_log.specs.declared.entries.Stamp.{Stamp}
use Rattle.ref_refs.specs.Commit.{alien_ref, alien_value, changed_by, conflict, early_refusal, entry_of, lacking, lacking_rule}
use Rattle.ref_refs.specs.Seen.{RefsSeen, changed_at}
use Rattle.ref_refs.specs.Watches.{notices, touched_refs}
use Rattle.ref_refs.specs.declared.committing.Prepared.{Prepared}
use Rattle.ref_tx.specs.Inner.{inner_value}
use Rattle.ref_tx.specs.Seen.{TxSeen}

-- Nothing that is asked before any memory is taken refuses a transaction.
pub record IsChecked (knows : Known) (store : RefsSeen) (at agents : ℕ) (tx : TxSeen) : Type 0 where
  pub early : early_refusal knows store at agents tx ≡ None
  pub here : alien_ref store.values tx.dones ≡ None
  pub fits : fit_tally store.tally tx.dones ≡ true
  pub served : lacking knows.funs tx.dones ≡ None
  pub known : lacking_rule knows.preds store.guards tx.dones ≡ None
  pub unchanged : alien_value store.values tx ≡ None

-- What a commit that was prepared does to these refs, at this point: it has its entry, which is one step from the values now to those that
-- it puts in their places; these keep the rules, the points of last change follow, and the books can take what it moves.
pub record CanInstall (means : Means) (accepts : Accepts) (store : RefsSeen) (at most_added most_taken : ℕ) (stamp : Stamp) (tx : TxSeen) (p : Prepared) : Type 0 where
  pub base : p.refs.base ≡ record { values = store.values; lasts = store.lasts }
  pub values : (atoms : List Edn) → step means at (entry_of stamp tx) (record { refs = store.values; atoms = atoms }) ≡ Ok (record { refs = p.refs.values; atoms = atoms })
  pub here : alien_ref store.values tx.dones ≡ None
  pub fits : fit_tally store.tally tx.dones ≡ true
  pub made : after_dones means tx.dones at tx.dones (Ok store.values) ≡ Ok p.refs.values
  pub accepted : AreAccepted accepts store.guards p.refs.values
  pub moved : (r : ℕ) → changed_at p.refs.lasts r ≡ changed_by store.lasts at tx.dones r
  pub all : length p.refs.lasts ≡ length store.lasts
  pub entry : p.landed.entry ≡ entry_of stamp tx
  pub notices : p.landed.notices.items ≡ notices store.guards store.values p.refs.values (touched_refs tx.dones)
  pub inner : (r : ℕ) → is_protected tx.dones r ≡ true → slice_get p.refs.values r ≡ inner_value means tx r
  pub limit : at ≤ last_point
  pub added : p.added ≡ moved_by_dones Added store.tally tx.dones
  pub taken : p.taken ≡ moved_by_dones Taken store.tally tx.dones
  pub room_added : p.added ≤ most_added
  pub room_taken : p.taken ≤ most_taken

-- A ref that the transaction protects has the value that the transaction began with, unless it has changed since.
abbrev pub IsOwn : RefsSeen → TxSeen → Type 0
IsOwn store tx = conflict store tx ≡ None → alien_value store.values tx ≡ None
