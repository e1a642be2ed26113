use Rattle.std.proofs.Common.{◌≡◌, ℕ, Ok, true, drop, length, slice_get, take}
use Rattle.ref_log.specs.Replay.{after_dones, is_protected}
use Rattle.ref_tx.specs.Inner.{value_after}
use Rattle.ref_refs.specs.Commit.{changed_by, refused}
use Rattle.ref_refs.specs.Seen.{changed_at}
use Rattle.ref_refs.proofs.placing.place_all.Given as goal

abbrev pub invariant-loop-done : goal.invariant-loop-done
invariant-loop-done g l =
    let means = g.M.Meaning.means in
    record {
      stepped : (at : ℕ) → after_dones means l.dones at (drop l.done-index l.dones) (Ok l.after.values) ≡ after_dones means l.dones at l.dones (Ok l.refs.values);
      moved : (r : ℕ) → changed_at l.after.lasts r ≡ changed_by l.refs.lasts l.at (take l.done-index l.dones) r;
      unrefused : refused means (drop l.done-index l.dones) l.after.values ≡ refused means l.dones l.refs.values;
      all : length l.after.values ≡ length l.refs.values;
      base : l.after.base ≡ l.refs;
      lasts : length l.after.lasts ≡ length l.refs.lasts;
      agrees : (r : ℕ) → is_protected l.dones r ≡ true → slice_get l.after.values r ≡ value_after means l.tx.began (take l.done-index l.dones) r;
    }
