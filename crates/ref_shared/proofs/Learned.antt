-- What is known of the history along several calls.
use Rattle.std.proofs.Common.{◌≡◌, ◌≤◌, ℕ, ◌+◌, true, [], ◌∷◌, ◌++◌, Option, None, Some, Result, Ok, Err, OnErr, OnOk, IfErr, IfOk, List, length, slice_get, ap, refl, subst, sym, ◌∙◌, arith, length-append}
use Rattle.std.specs.Ordering.{eq_by_cmp}
use Rattle.ref_value.specs.Edn.{Edn}
use Rattle.ref_value.specs.Order.{edn_cmp}
use Rattle.ref_atoms.specs.Atoms.{with_value}
use Rattle.ref_atoms.specs.Change.{is_same_at, is_same_if_here}
use Rattle.ref_atoms.specs.declared.changes.Cas.{Cas}
use Rattle.ref_atoms.specs.declared.changes.Swapped.{Swapped}
use Rattle.ref_fun.specs.Meaning.{Means}
use Rattle.ref_log.specs.Laws.{same_value}
use Rattle.ref_log.specs.Replay.{is_protected, point_after}
use Rattle.ref_log.specs.Tally.{moved_by_dones}
use Rattle.ref_log.specs.declared.counting.Side.TheVariants.{Added, Taken}
use Rattle.ref_log.specs.declared.entries.Entry.{Entry}
use Rattle.ref_log.specs.declared.entries.Entry.TheVariants.{Atom}
use Rattle.ref_log.specs.declared.entries.Stamp.{Stamp}
use Rattle.ref_log.specs.declared.operations.Op.{Op}
use Rattle.ref_log.specs.declared.operations.Op.TheVariants.{Set}
use Rattle.ref_log.specs.declared.states.PlainState.{PlainState}
use Rattle.ref_refs.specs.Commit.{entry_of}
use Rattle.ref_refs.specs.Conflicts.{ConflictFits, fits_too}
use Rattle.ref_refs.specs.Seen.{changed_at}
use Rattle.ref_refs.specs.declared.faults.CommitFault.{CommitFault}
use Rattle.ref_tx.specs.Seen.{TxSeen}
use Rattle.ref_world.specs.History.{Begins, IsLegal, atoms_in, atoms_of, changed_in, point_in, refs_in, state_in, upto, with_entry}
use Rattle.ref_world.specs.HistoryLaws.{begins_itself, begins_then}
use Rattle.ref_world.specs.Seen.{HistorySeen, ShareSeen, WorldSeen}
use Rattle.ref_world.specs.Shares.{knowing, with_commit, with_receipt}
use Rattle.ref_world.specs.World as worlds
use Rattle.ref_world.specs.World.{point_of, values_now}
use Rattle.ref_world.specs.declared.commits.Receipt.{Receipt}
use Rattle.ref_shared.specs.Commits.{HasChanged, HasCommitted, HasEntered, HasLearned, HasMade, HasReceipt, IsLater}

pub later_itself : (s : ShareSeen) → IsLater s s
later_itself s = record { same = refl; known = begins_itself s.history }

pub later_then : (one two three : ShareSeen) → IsLater one two → IsLater two three → IsLater one three
later_then one two three first next = record {
  same = next.same ∙ ap (λ s. knowing s three.history) first.same;
  known = begins_then one.history two.history three.history first.known next.known;
}

pub learned_then : (means : Means) (one two three : ShareSeen) → IsLater one two → HasLearned means two three → HasLearned means one three
learned_then means one two three first next = record { later = later_then one two three first next.later; legal = next.legal }

pub learned_twice : (means : Means) (one two three four : ShareSeen) → IsLater one two → HasLearned means two three → HasLearned means three four → HasLearned means one four
learned_twice means one two three four first next last = learned_then means one three four (later_then one two three first next.later) last

pub committed_then : (means : Means) (stamp : Stamp) (tx : TxSeen) (point : ℕ) (one two three four : ShareSeen) → IsLater one two → HasLearned means two three
    → HasCommitted means stamp tx point three four → HasCommitted means stamp tx point one four
committed_then means stamp tx point one two three four first next last =
    let later = later_then one two three first next.later in
    record {
      tally = last.tally;
      share = last.share ∙ ap (λ s. knowing (with_commit s point (moved_by_dones Added last.tally tx.dones) (moved_by_dones Taken last.tally tx.dones)) four.history) later.same;
      entered = record {
        found = last.entered.found;
        known = begins_then one.history three.history last.entered.found later.known last.entered.known;
        entered = last.entered.entered;
        at = last.entered.at;
        legal = last.entered.legal;
      };
      began = last.began;
      unchanged = last.unchanged;
    }

-- ---- what a call under the lock leaves, where what it found is at hand

abbrev entered : (means : Means) (e : Entry) (point : ℕ) (old new before after : HistorySeen)
    → Begins old before → after ≡ with_entry before e → new ≡ after → IsLegal means after → point ≡ point_in after
    → HasEntered means e point old new
entered means e point old new before after known grows now legal at = record {
  found = before;
  known = known;
  entered = now ∙ grows;
  at = at ∙ ap point_in (sym now);
  legal = subst (IsLegal means) (sym now) legal;
}

pub committed : {E : Type 0} (r : Result Receipt E) (means : Means) (stamp : Stamp) (tx : TxSeen) (old mid new : ShareSeen) (world later : WorldSeen) (before after : HistorySeen)
    → OnOk r (later ≡ worlds.with_commit world (entry_of stamp tx) later.refs tx.sends)
    → IfOk r (λ receipt. (receipt.point ≡ point_of world + 1) × (receipt.stamp ≡ stamp))
    → OnOk r (mid ≡ knowing (with_commit old (point_of world + 1) (moved_by_dones Added world.refs.tally tx.dones) (moved_by_dones Taken world.refs.tally tx.dones)) after)
    → OnOk r (after ≡ with_entry before (entry_of stamp tx))
    → OnOk r (Begins old.history before)
    → OnOk r ((k : ℕ) → is_protected tx.dones k ≡ true → slice_get tx.began k ≡ slice_get (refs_in means (upto before tx.read_point)) k)
    → OnOk r ((k : ℕ) → is_protected tx.dones k ≡ true → changed_in before k ≤ tx.read_point)
    → new ≡ knowing mid after → IsLegal means after → point_in after ≡ point_of later
    → IfOk r (λ receipt. HasCommitted means stamp tx receipt.point old new)
committed (Err e) means stamp tx old mid new world later before after lands receipts made grows known began unchanged informed legal point = tt
committed (Ok receipt) means stamp tx old mid new world later before after lands receipts made grows known began unchanged informed legal point =
    let e = entry_of stamp tx in
    let adds = moved_by_dones Added world.refs.tally tx.dones in
    let takes = moved_by_dones Taken world.refs.tally tx.dones in
    let now : new.history ≡ after = ap (λ (s : ShareSeen). s.history) informed in
    let count = length-append world.log (e ∷ []) in
    let next : point_of world + 1 ≡ point_after world.base (world.log ++ e ∷ []) = omega (arith, count) in
    let at : receipt.point ≡ point_in after = receipts.0 ∙ (next ∙ (ap point_of (sym lands) ∙ sym point)) in
    record {
      tally = world.refs.tally;
      share = informed
          ∙ (ap (λ s. knowing s after) made
          ∙ (ap (λ k. knowing (with_commit old k adds takes) after) (sym receipts.0)
          ∙ ap (λ h. knowing (with_commit old receipt.point adds takes) h) (sym now)));
      entered = entered means e receipt.point old.history new.history before after known grows now legal at;
      began = began;
      unchanged = unchanged;
    }

-- A conflict is one that the history shows.
pub conflicted : {T : Type 0} (r : Result T (TxSeen × CommitFault)) (means : Means) (tx : TxSeen) (mid new : ShareSeen) (world later : WorldSeen) (before after : HistorySeen)
    → IfErr r (λ e. ConflictFits tx (changed_at world.refs.lasts) e.1) → OnErr r ((later ≡ world) × (after ≡ before))
    → new ≡ knowing mid after → ((k : ℕ) → changed_in after k ≡ changed_at later.refs.lasts k)
    → IfErr r (λ e. ConflictFits tx (changed_in new.history) e.1)
conflicted (Ok x) means tx mid new world later before after fits same informed lasts = tt
conflicted (Err e) means tx mid new world later before after fits same informed lasts =
    let now : new.history ≡ after = ap (λ (s : ShareSeen). s.history) informed in
    fits_too tx (changed_at world.refs.lasts) (changed_in new.history) e.1
    (λ k. ap (λ h. changed_in h k) now ∙ (lasts k ∙ ap (λ (w : WorldSeen). changed_at w.refs.lasts k) same.0)) fits

-- A reference was made.
pub was_made : {F : Type 0} (r : Result ℕ F) (means : Means) (e : Entry) (all : HistorySeen → List Edn) (values : List Edn) (first new before after : HistorySeen)
    → Begins first before → all before ≡ values
    → OnOk r (after ≡ with_entry before e) → IfOk r (λ n. n ≡ length values)
    → new ≡ after → IsLegal means after
    → IfOk r (λ n. HasMade means e all n first new)
was_made (Err f) means e all values first new before after begins held grows count told legal = tt
was_made (Ok n) means e all values first new before after begins held grows count told legal = record {
  point = point_in after;
  entered = entered means e (point_in after) first new before after begins grows told legal refl;
  count = count ∙ ap length (sym held);
}

-- A share was brought up to the history.
pub informed : (means : Means) (old new : ShareSeen) (found : HistorySeen) → new ≡ knowing old found → Begins old.history found → IsLegal means found → HasLearned means old new
informed means old new found is known legal =
    let now : new.history ≡ found = ap (λ (s : ShareSeen). s.history) is in
    record {
      later = record { same = is ∙ ap (knowing old) (sym now); known = subst (Begins old.history) (sym now) known };
      legal = subst (IsLegal means) (sym now) legal;
    }

-- One change of an atom.
abbrev changed : (means : Means) (a : ℕ) (op : Op) (was value : Edn) (old mid new : ShareSeen) (world later : WorldSeen) (before after : HistorySeen)
    → later ≡ worlds.with_entry world (Atom a op value) world.refs (with_value world.atoms a value)
    → mid ≡ knowing (with_receipt old (point_of world + 1)) after
    → after ≡ with_entry before (Atom a op value)
    → Begins old.history before
    → state_in means before ≡ Ok (values_now world.refs world.atoms)
    → slice_get world.atoms.values a ≡ Some was
    → new ≡ knowing mid after → IsLegal means after → point_in after ≡ point_of later
    → HasChanged means a op was value old new
changed means a op was value old mid new world later before after lands made grows known state had informed legal point =
    let e = Atom a op value in
    let now : new.history ≡ after = ap (λ (s : ShareSeen). s.history) informed in
    let count = length-append world.log (e ∷ []) in
    let next : point_of world + 1 ≡ point_after world.base (world.log ++ e ∷ []) = omega (arith, count) in
    let at : point_of world + 1 ≡ point_in after = next ∙ (ap point_of (sym lands) ∙ sym point) in
    record {
      receipt = record {
        point = point_of world + 1;
        share = informed ∙ (ap (λ s. knowing s after) made ∙ ap (λ h. knowing (with_receipt old (point_of world + 1)) h) (sym now));
        entered = entered means e (point_of world + 1) old.history new.history before after known grows now legal at;
      };
      had = ap (λ s. slice_get (atoms_of s) a) state ∙ had;
    }

-- What was known first is not asked for again: the share that knew the history found under the lock, and then made the change.
from_learned : (means : Means) (a : ℕ) (op : Op) (was value : Edn) (first old new : ShareSeen) (before : HistorySeen)
    → old ≡ knowing first before → Begins first.history before → HasChanged means a op was value old new → HasChanged means a op was value first new
from_learned means a op was value first old new before informed known is =
    let held : old.history ≡ before = ap (λ (s : ShareSeen). s.history) informed in
    let first_begins : Begins first.history old.history = subst (Begins first.history) (sym held) known in
    record {
      receipt = record {
        point = is.receipt.point;
        share = is.receipt.share ∙ ap (λ s. knowing (with_receipt s is.receipt.point) new.history) informed;
        entered = record {
          found = is.receipt.entered.found;
          known = begins_then first.history old.history is.receipt.entered.found first_begins is.receipt.entered.known;
          entered = is.receipt.entered.entered;
          at = is.receipt.entered.at;
          legal = is.receipt.entered.legal;
        };
      };
      had = is.had;
    }

pub swapped : {E : Type 0} (r : Result Swapped E) (means : Means) (a : ℕ) (op : Op) (first old mid new : ShareSeen) (world later : WorldSeen) (before after : HistorySeen)
    → old ≡ knowing first before → Begins first.history before → state_in means before ≡ Ok (values_now world.refs world.atoms)
    → IfOk r (λ s. later ≡ worlds.with_entry world (Atom a op s.new) world.refs (with_value world.atoms a s.new))
    → IfOk r (λ s. mid ≡ knowing (with_receipt old (point_of world + 1)) after)
    → IfOk r (λ s. after ≡ with_entry before (Atom a op s.new))
    → OnOk r (Begins old.history before)
    → IfOk r (λ s. slice_get world.atoms.values a ≡ Some s.old)
    → new ≡ knowing mid after → IsLegal means after → point_in after ≡ point_of later
    → IfOk r (λ s. HasChanged means a op s.old s.new first new)
swapped (Err e) means a op first old mid new world later before after informed begins state lands made grows known had told legal point = tt
swapped (Ok s) means a op first old mid new world later before after informed begins state lands made grows known had told legal point =
    from_learned means a op s.old s.new first old new before informed begins
    (changed means a op s.old s.new old mid new world later before after lands made grows known state had told legal point)

pub was_reset : {E : Type 0} (r : Result Swapped E) (means : Means) (a : ℕ) (value : Edn) (first old mid new : ShareSeen) (world later : WorldSeen) (before after : HistorySeen)
    → old ≡ knowing first before → Begins first.history before → state_in means before ≡ Ok (values_now world.refs world.atoms)
    → OnOk r (later ≡ worlds.with_entry world (Atom a (Set value) value) world.refs (with_value world.atoms a value))
    → OnOk r (mid ≡ knowing (with_receipt old (point_of world + 1)) after)
    → OnOk r (after ≡ with_entry before (Atom a (Set value) value))
    → OnOk r (Begins old.history before)
    → IfOk r (λ s. slice_get world.atoms.values a ≡ Some s.old)
    → new ≡ knowing mid after → IsLegal means after → point_in after ≡ point_of later
    → IfOk r (λ s. HasChanged means a (Set value) s.old value first new)
was_reset (Err e) means a value first old mid new world later before after informed begins state lands made grows known had told legal point = tt
was_reset (Ok s) means a value first old mid new world later before after informed begins state lands made grows known had told legal point =
    from_learned means a (Set value) s.old value first old new before informed begins
    (changed means a (Set value) s.old value old mid new world later before after lands made grows known state had told legal point)

-- A comparison that answers true found the old value.
same_here : (now : Option Edn) (old : Edn) → is_same_if_here now old ≡ true → now ≡ Some old
same_here None old is = absurd cc
same_here (Some v) old is = ap Some (same_value v old is)

pub compared : {E : Type 0} (r : Result Cas E) (means : Means) (a : ℕ) (was value : Edn) (first old mid new : ShareSeen) (world later : WorldSeen) (before after : HistorySeen)
    → old ≡ knowing first before → Begins first.history before → state_in means before ≡ Ok (values_now world.refs world.atoms)
    → IfOk r (λ c. c.done ≡ is_same_at world.atoms a was)
    → IfOk r (λ c. c.done ≡ true → later ≡ worlds.with_entry world (Atom a (Set value) value) world.refs (with_value world.atoms a value))
    → IfOk r (λ c. c.done ≡ true → mid ≡ knowing (with_receipt old (point_of world + 1)) after)
    → IfOk r (λ c. c.done ≡ true → after ≡ with_entry before (Atom a (Set value) value))
    → IfOk r (λ c. c.done ≡ true → Begins old.history before)
    → new ≡ knowing mid after → IsLegal means after → point_in after ≡ point_of later
    → IfOk r (λ c. c.done ≡ true → HasChanged means a (Set value) was value first new)
compared (Err e) means a was value first old mid new world later before after informed begins state done lands made grows known told legal point = tt
compared (Ok c) means a was value first old mid new world later before after informed begins state done lands made grows known told legal point = λ is.
    from_learned means a (Set value) was value first old new before informed begins
    (changed means a (Set value) was value old mid new world later before after (lands is) (made is) (grows is) (known is) state (same_here (slice_get world.atoms.values a) was (sym done ∙ is)) told legal point)
