-- What grows, and what is a part of it.
use Rattle.std.proofs.Common.{◌≡◌, ◌≤◌, ◌<◌, ◌+◌, ◌-◌, ℕ, zero, suc, Bool, true, false, cond, not, ◌&&◌, ◌||◌, ◌==◌, nat_lt, if◌then◌else◌, List, [], ◌∷◌, ◌++◌, Option, None, Some, Result, Ok, Err, OnOk, OnErr, length, find, take, drop, slice_get, slice_index_or, refl, ap, sym, subst, ◌∙◌, arith, append-nil, inl, inr, ◌⊎◌, length-append}
use mathlib.Core.List.{IsPrefix}
use Rattle.std.specs.List.{range_with_len}
use Rattle.std.specs.Option.{option_map}
use Rattle.std.specs.Ordering.{eq_by_cmp, is_eq}
use Rattle.std.proofs.lemmas.Bool.{and_parts, eqb-true, ltb-false, ltb-true}
use Rattle.std.proofs.lemmas.Cmp.{tied_itself}
use Rattle.std.proofs.lemmas.List.{drop_at, get_or_past, length-take-le, take-append-drop, take_at}
use Rattle.ref_value.specs.Edn.{Edn}
use Rattle.ref_value.specs.Order.{edn_cmp}
use Rattle.ref_value.specs.OrderLaws.{edn_cmp_total}
use Rattle.ref_fun.specs.Meaning.{Means}
use Rattle.ref_log.specs.Fold.{IsFolded}
use Rattle.ref_log.specs.FoldLaws.{commits_of-both, last_change_from-both, replay_from-both}
use Rattle.ref_log.specs.Laws.{replay-refs, replay_from-Ok, same_value, step-refs, step-untouched}
use Rattle.ref_log.specs.Replay.{and_step, is_changed_by, is_commute, is_protected, last_change, last_change_from, point_after, refs_after, refs_after_one, replay, replay_from, state_of, step}
use Rattle.ref_log.specs.Tally.{commits_of}
use Rattle.ref_log.specs.declared.entries.Entry.{Entry}
use Rattle.ref_log.specs.declared.faults.AuditFault.{AuditFault}
use Rattle.ref_log.specs.declared.operations.Done.{Done}
use Rattle.ref_log.specs.declared.states.Base.{Base}
use Rattle.ref_log.specs.declared.states.PlainState.{PlainState}
use Rattle.ref_atoms.specs.Atoms.{AtomsSeen}
use Rattle.ref_fun.specs.Calls.{Known}
use Rattle.ref_fun.specs.Rule.{Accepts}
use Rattle.ref_log.specs.Told.{TellsOrMemory}
use Rattle.ref_refs.specs.Commit.{alien, alien_agent, alien_ref, alien_tally, alien_value, changed_after, conflict, conflict_on, differs, differs_at, has_ref, lacking, lacking_rule, or_fault}
use Rattle.ref_refs.specs.Ready.{IsOwn}
use Rattle.ref_refs.specs.Seen.{RefsSeen, changed_at}
use Rattle.ref_refs.specs.declared.faults.Alien.TheVariants as aliens
use Rattle.ref_refs.specs.declared.faults.CommitFault.{CommitFault}
use Rattle.ref_refs.specs.declared.faults.CommitFault.TheVariants.{Foreign, Memory}
use Rattle.ref_tx.specs.Seen.{TxSeen}
use Rattle.ref_world.specs.History.{Begins, HasBegun, IsCut, changed_in, entries_told, first_in, later_in, longer, point_in, refs_in, refs_of, start_told, state_in, told, upto, with_entry}
use Rattle.ref_world.specs.Checkpoint.{folded_entries, with_checkpoint}
use Rattle.ref_world.specs.HistoryLaws.{append-assoc}
use Rattle.ref_world.specs.Seen.{HistorySeen, WorldSeen}
use Rattle.ref_world.specs.World.{HasLastChanges, IsReplayed, commit_refusal, early_refusal, point_of, values_now, with_tally}
use Rattle.ref_world.specs.declared.histories.Act.{Act}
use Rattle.ref_world.specs.declared.histories.Act.TheVariants.{Began, Entered}

-- ---- what is recorded

pub entries_told-both : (acts more : List Act) → entries_told (acts ++ more) ≡ entries_told acts ++ entries_told more
entries_told-both [] more = refl
entries_told-both (Began base ∷ acts) more = entries_told-both acts more
entries_told-both (Entered e ∷ acts) more = ap (λ l. e ∷ l) (entries_told-both acts more)

start_told-both : (acts more : List Act) → HasBegun acts → start_told (acts ++ more) ≡ start_told acts
start_told-both acts more has = ap (λ l. start_told (l ++ more)) has.begins ∙ sym (ap start_told has.begins)

-- A history that has begun is longer by an entry that is recorded.
pub begun_more : (acts : List Act) (e : Entry) → HasBegun acts → HasBegun (acts ++ Entered e ∷ [])
begun_more acts e has = record { base = has.base; later = has.later ++ Entered e ∷ []; begins = ap (λ l. l ++ Entered e ∷ []) has.begins }

pub told_more : (acts : List Act) (e : Entry) → HasBegun acts → told (acts ++ Entered e ∷ []) ≡ with_entry (told acts) e
told_more acts e has =
    ap (λ s. record { start = s; entries = entries_told (acts ++ Entered e ∷ []) }) (start_told-both acts (Entered e ∷ []) has)
    ∙ ap (λ l. record { start = start_told acts; entries = l }) (entries_told-both acts (Entered e ∷ []))

-- What was recorded first begins what is recorded later.
pub told_begins : (acts all : List Act) → IsPrefix acts all → HasBegun acts → Begins (told acts) (told all)
told_begins acts all first has = record {
  more = entries_told first.0;
  start = ap start_told (sym first.1) ∙ start_told-both acts first.0 has;
  entries = ap entries_told (sym first.1) ∙ entries_told-both acts first.0;
}

-- ---- the longer of two

begins_itself : (h : HistorySeen) → Begins h h
begins_itself h = record { more = []; start = refl; entries = sym (append-nil h.entries) }

begins_point : (one other : HistorySeen) → Begins one other → point_in one ≤ point_in other
begins_point one other is = omega (arith, ap (λ s. s.point) is.start, ap length is.entries ∙ length-append one.entries is.more)

nil_of : (entries : List Entry) → length entries ≡ 0 → entries ≡ []
nil_of [] none = refl
nil_of (e ∷ entries) none = absurd (omega (arith, none))

-- What begins a history that is no longer is the same.
begins_back : (one other : HistorySeen) → Begins one other → point_in other ≤ point_in one → Begins other one
begins_back one other is short =
    let none : length is.more ≡ 0 = omega (arith, short, ap (λ s. s.point) is.start, ap length is.entries ∙ length-append one.entries is.more) in
    record {
      more = [];
      start = sym is.start;
      entries = sym (append-nil one.entries) ∙ (ap (λ l. one.entries ++ l) (sym (nil_of is.more none)) ∙ (sym is.entries ∙ sym (append-nil other.entries)));
    }

longer_by : (one other : HistorySeen) (b : Bool) → nat_lt (point_in one) (point_in other) ≡ b → Begins one other ⊎ Begins other one
    → Begins one (if b then other else one) × Begins other (if b then other else one)
longer_by one other true less (inl first) = (first, begins_itself other)
longer_by one other true less (inr first) = (absurd (omega (arith, ltb-true (point_in one) (point_in other) less, begins_point other one first)), begins_itself other)
longer_by one other false less (inl first) = (begins_itself one, begins_back one other first (omega (arith, ltb-false (point_in one) (point_in other) less)))
longer_by one other false less (inr first) = (begins_itself one, first)

in_line : (one other : List Act) → HasBegun one → HasBegun other → IsPrefix one other ⊎ IsPrefix other one → Begins (told one) (told other) ⊎ Begins (told other) (told one)
in_line one other first second (inl p) = inl (told_begins one other p first)
in_line one other first second (inr p) = inr (told_begins other one p second)

-- Of two beginnings of one history the longer has both.
pub told_in_line : (one other : List Act) → HasBegun one → HasBegun other → IsPrefix one other ⊎ IsPrefix other one
    → Begins (told one) (longer (told one) (told other)) × Begins (told other) (longer (told one) (told other))
told_in_line one other first second either =
    longer_by (told one) (told other) (nat_lt (point_in (told one)) (point_in (told other))) refl (in_line one other first second either)

-- ---- base and log are parts of it

-- the same, with the entries that were folded by a name of their own
record Parts (means : Means) (h : HistorySeen) (base : Base) (log : List Entry) : Type 0 where
  folded : List Entry
  entries : h.entries ≡ folded ++ log
  point : base.point ≡ point_after h.start folded
  replayed : replay means h.start folded ≡ Ok (state_of base)
  changed : (r : ℕ) → slice_index_or base.last r 0 ≡ last_change h.start folded r
  commits : base.commits ≡ h.start.commits + commits_of folded

module _ (means : Means) where
  parts_of : (h : HistorySeen) (base : Base) (log : List Entry) → IsCut means h base log → Parts means h base log
  parts_of h base log is = record {
    folded = first_in h base.point;
    entries = sym (take-append-drop (base.point - h.start.point) h.entries) ∙ ap (λ l. first_in h base.point ++ l) (sym is.left);
    point = is.point;
    replayed = is.replayed;
    changed = is.changed;
    commits = is.commits;
  }

  cut_of : (h : HistorySeen) (base : Base) (log : List Entry) → Parts means h base log → IsCut means h base log
  cut_of h base log is =
      let count : length is.folded ≡ base.point - h.start.point = omega (arith, is.point) in
      let first : first_in h base.point ≡ is.folded = ap (take (base.point - h.start.point)) is.entries ∙ take_at is.folded log (base.point - h.start.point) count in
      let later : later_in h base.point ≡ log = ap (drop (base.point - h.start.point)) is.entries ∙ drop_at is.folded log (base.point - h.start.point) count in
      record {
        left = sym later;
        point = is.point ∙ ap (point_after h.start) (sym first);
        replayed = ap (replay means h.start) first ∙ is.replayed;
        changed = λ r. is.changed r ∙ ap (λ l. last_change h.start l r) (sym first);
        commits = is.commits ∙ ap (λ l. h.start.commits + commits_of l) (sym first);
      }

  -- a world that has just begun
  pub cut_begun : (base : Base) → IsCut means (record { start = base; entries = [] }) base []
  cut_begun base = cut_of (record { start = base; entries = [] }) base [] (record {
    folded = [];
    entries = refl;
    point = omega arith;
    replayed = refl;
    changed = λ r. refl;
    commits = omega arith;
  })

  pub cut_more : (h : HistorySeen) (base : Base) (log : List Entry) (e : Entry) → IsCut means h base log → IsCut means (with_entry h e) base (log ++ e ∷ [])
  cut_more h base log e is =
      let parts = parts_of h base log is in
      cut_of (with_entry h e) base (log ++ e ∷ []) (record {
        folded = parts.folded;
        entries = ap (λ l. l ++ e ∷ []) parts.entries ∙ sym (append-assoc parts.folded log (e ∷ []));
        point = parts.point;
        replayed = parts.replayed;
        changed = parts.changed;
        commits = parts.commits;
      })

  -- where the base names another tally
  pub cut_tally : (h : HistorySeen) (base : Base) (log : List Entry) (tally : Option ℕ) → IsCut means h base log → IsCut means h (with_tally tally base) log
  cut_tally h base log tally is = record {
    left = is.left;
    point = is.point;
    replayed = is.replayed;
    changed = is.changed;
    commits = is.commits;
  }

  -- The last change of a ref in the log on the base is the last one in the history.
  last_change_cut : (h : HistorySeen) (base : Base) (folded log : List Entry) (r : ℕ) → base.point ≡ point_after h.start folded → replay means h.start folded ≡ Ok (state_of base)
      → ((r : ℕ) → slice_index_or base.last r 0 ≡ last_change h.start folded r) → last_change h.start (folded ++ log) r ≡ last_change base log r
  last_change_cut h base folded log r point replayed changed =
      let refs : length base.refs ≡ refs_after (length h.start.refs) folded = replay-refs means h.start folded (state_of base) replayed in
      last_change_from-both h.start.point (length h.start.refs) folded log r (slice_index_or h.start.last r 0)
      ∙ (ap (λ p. last_change_from p (refs_after (length h.start.refs) folded) log r (last_change h.start folded r)) (sym point)
      ∙ (ap (λ n. last_change_from base.point n log r (last_change h.start folded r)) (sym refs)
      ∙ ap (λ l. last_change_from base.point (length base.refs) log r l) (sym (changed r))))

  -- where the first entries of the log are folded into the base
  pub cut_folded : (h : HistorySeen) (base : Base) (log : List Entry) (n : ℕ) (after : Base) → IsCut means h base log → IsFolded means base (take n log) after → IsCut means h after (drop n log)
  cut_folded h base log n after is folds =
      let parts = parts_of h base log is in
      let more = length-append parts.folded (take n log) in
      let both : replay means h.start (parts.folded ++ take n log) ≡ replay means base (take n log) =
      replay_from-both means h.start.point parts.folded (take n log) (Ok (state_of h.start))
      ∙ (ap (replay_from means (h.start.point + length parts.folded) (take n log)) parts.replayed
      ∙ ap (λ p. replay_from means p (take n log) (Ok (state_of base))) (sym parts.point)) in
      cut_of h after (drop n log) (record {
        folded = parts.folded ++ take n log;
        entries = parts.entries ∙ (ap (λ l. parts.folded ++ l) (sym (take-append-drop n log)) ∙ append-assoc parts.folded (take n log) (drop n log));
        point = omega (arith, parts.point, folds.point, more);
        replayed = both ∙ folds.replayed;
        changed = λ r. folds.changed r ∙ sym (last_change_cut h base parts.folded (take n log) r parts.point parts.replayed parts.changed);
        commits = omega (arith, parts.commits, folds.commits, commits_of-both parts.folded (take n log));
      })

  pub cut_checkpoint : {T E : Type 0} (r : Result T E) (h : HistorySeen) (old new : WorldSeen) (point : ℕ) → IsCut means h old.base old.log
      → OnOk r (IsFolded means old.base (folded_entries old point) new.base) → OnOk r (new ≡ with_checkpoint old point new.base) → OnErr r (new ≡ old) → IsCut means h new.base new.log
  cut_checkpoint (Ok n) h old new point is folds rest same =
      let log : new.log ≡ drop (point - old.base.point) old.log = ap (λ (w : WorldSeen). w.log) rest in
      subst (IsCut means h new.base) (sym log) (cut_folded h old.base old.log (point - old.base.point) new.base is folds)
  cut_checkpoint (Err e) h old new point is folds rest same = subst (λ (w : WorldSeen). IsCut means h w.base w.log) (sym same) is

  pub cut_changed : (h : HistorySeen) (base : Base) (log : List Entry) → IsCut means h base log → (r : ℕ) → changed_in h r ≡ last_change base log r
  cut_changed h base log is r =
      let parts = parts_of h base log is in
      ap (λ l. last_change h.start l r) parts.entries ∙ last_change_cut h base parts.folded log r parts.point parts.replayed parts.changed

  -- The values after the history are those after the log.
  pub cut_state : (h : HistorySeen) (base : Base) (log : List Entry) → IsCut means h base log → state_in means h ≡ replay means base log
  cut_state h base log is =
      let parts = parts_of h base log is in
      ap (replay means h.start) parts.entries
      ∙ (replay_from-both means h.start.point parts.folded log (Ok (state_of h.start))
      ∙ (ap (replay_from means (h.start.point + length parts.folded) log) parts.replayed
      ∙ ap (λ p. replay_from means p log (Ok (state_of base))) (sym parts.point)))

  -- The commits of the history are those of base and log.
  pub cut_commits : (h : HistorySeen) (base : Base) (log : List Entry) → IsCut means h base log → h.start.commits + commits_of h.entries ≡ base.commits + commits_of log
  cut_commits h base log is =
      let parts = parts_of h base log is in
      omega (arith, parts.commits, ap commits_of parts.entries, commits_of-both parts.folded log)

  pub cut_point : (h : HistorySeen) (base : Base) (log : List Entry) → IsCut means h base log → point_in h ≡ point_after base log
  cut_point h base log is =
      let parts = parts_of h base log is in
      let entries = ap (λ (l : List Entry). length l) parts.entries in
      let both = length-append parts.folded log in
      omega (arith, parts.point, entries, both)

  -- ---- a ref that hasn't changed has the value that it had

  grows : (p n : ℕ) (es : List Entry) (r before : ℕ) → before ≤ p → before ≤ last_change_from p n es r before
  grows p n [] r before past = omega arith
  grows p n (e ∷ es) r before past = by (is_changed_by n e r) (grows (p + 1) (refs_after_one n e) es r (p + 1) (omega arith)) (grows (p + 1) (refs_after_one n e) es r before (omega (arith, past)))
    where
      by : (b : Bool) → p + 1 ≤ last_change_from (p + 1) (refs_after_one n e) es r (p + 1) → before ≤ last_change_from (p + 1) (refs_after_one n e) es r before
          → before ≤ last_change_from (p + 1) (refs_after_one n e) es r (if b then p + 1 else before)
      by true later same = omega (arith, later, past)
      by false later same = same

  stays : (p q : ℕ) (es : List Entry) (state after : PlainState) (r before : ℕ) → replay_from means p es (Ok state) ≡ Ok after → q ≤ p → last_change_from p (length state.refs) es r before ≤ q
      → slice_get after.refs r ≡ slice_get state.refs r
  stays p q [] state after r before is past since =
      let same : after ≡ state = cc in
      ap (λ (s : PlainState). slice_get s.refs r) same
  stays p q (e ∷ es) state after r before is past since =
      let first = replay_from-Ok means (p + 1) es (step means (p + 1) e state) after is in
      let rest : replay_from means (p + 1) es (Ok first.0) ≡ Ok after = ap (replay_from means (p + 1) es) (sym first.1) ∙ is in
      let count = step-refs means (p + 1) e state first.0 first.1 in
      by (is_changed_by (length state.refs) e r) refl first.0 first.1 count (λ past since. stays (p + 1) q es first.0 after r before rest past since)
    where
      by : (b : Bool) → is_changed_by (length state.refs) e r ≡ b → (next : PlainState) → step means (p + 1) e state ≡ Ok next → length next.refs ≡ refs_after_one (length state.refs) e
          → (q ≤ p + 1 → last_change_from (p + 1) (length next.refs) es r before ≤ q → slice_get after.refs r ≡ slice_get next.refs r) → slice_get after.refs r ≡ slice_get state.refs r
      by true changes next steps count later_stays =
          let at : last_change_from (p + 1) (refs_after_one (length state.refs) e) es r (p + 1) ≤ q = subst (λ b. last_change_from (p + 1) (refs_after_one (length state.refs) e) es r (if b then p + 1 else before) ≤ q) changes since in
          let later = grows (p + 1) (refs_after_one (length state.refs) e) es r (p + 1) (omega arith) in
          absurd (omega (arith, at, later, past))
      by false leaves next steps count later_stays =
          let at : last_change_from (p + 1) (refs_after_one (length state.refs) e) es r before ≤ q = subst (λ b. last_change_from (p + 1) (refs_after_one (length state.refs) e) es r (if b then p + 1 else before) ≤ q) leaves since in
          later_stays (omega (arith, past)) (subst (λ n. last_change_from (p + 1) n es r before ≤ q) (sym count) at)
          ∙ step-untouched means (p + 1) e state next r steps leaves

  -- What hasn't changed since a point has the value that it had there.
  pub unchanged : (front h : HistorySeen) (after : PlainState) (r : ℕ) → Begins front h → state_in means h ≡ Ok after → changed_in h r ≤ point_in front
      → slice_get after.refs r ≡ slice_get (refs_in means front) r
  unchanged front h after r begins is since =
      let whole : replay means front.start (front.entries ++ begins.more) ≡ Ok after =
      ap (λ (b : Base). replay means b (front.entries ++ begins.more)) (sym begins.start) ∙ (ap (replay means h.start) (sym begins.entries) ∙ is) in
      let parts : replay_from means (point_in front) begins.more (state_in means front) ≡ Ok after = sym (replay_from-both means front.start.point front.entries begins.more (Ok (state_of front.start))) ∙ whole in
      let first = replay_from-Ok means (point_in front) begins.more (state_in means front) after parts in
      let rest : replay_from means (point_in front) begins.more (Ok first.0) ≡ Ok after = ap (replay_from means (point_in front) begins.more) (sym first.1) ∙ parts in
      let count : length first.0.refs ≡ refs_after (length front.start.refs) front.entries = replay-refs means front.start front.entries first.0 first.1 in
      let changed : changed_in h r ≡ last_change_from (point_in front) (length first.0.refs) begins.more r (changed_in front r) =
      ap (λ (b : Base). last_change b h.entries r) begins.start
      ∙ (ap (λ l. last_change front.start l r) begins.entries
      ∙ (last_change_from-both front.start.point (length front.start.refs) front.entries begins.more r (slice_index_or front.start.last r 0)
      ∙ ap (λ n. last_change_from (point_in front) n begins.more r (changed_in front r)) (sym count))) in
      stays (point_in front) (point_in front) begins.more first.0 after r (changed_in front r) rest (omega arith) (subst (λ k. k ≤ point_in front) changed since)
      ∙ ap (λ l. slice_get l r) (sym (ap refs_of first.1))

-- ---- a transaction that was begun in it

find_none : (p q : ℕ → Bool) (rs : List ℕ) → ((r : ℕ) → p r ≡ false → q r ≡ false) → find p rs ≡ None → find q rs ≡ None
find_none p q [] less none = refl
find_none p q (r ∷ rs) less none = by (p r) refl none (find_none p q rs less)
  where
    by : (b : Bool) → p r ≡ b → (if b then Some r else find p rs) ≡ None → (find p rs ≡ None → find q rs ≡ None) → find q (r ∷ rs) ≡ None
    by true is none later = absurd cc
    by false is none later = rw (less r is) (later none)

mapped_none : {X Y : Type 0} (f : X → Y) (o : Option X) → option_map f o ≡ None → o ≡ None
mapped_none f None none = refl
mapped_none f (Some x) none = absurd cc

same_differs : (o : Option Edn) → differs o o ≡ false
same_differs None = refl
same_differs (Some v) = ap (λ o. not (is_eq o)) (tied_itself edn_cmp_total v)

-- Of the transaction's own world: what hasn't changed has the value that the transaction began with.
pub is_own : (means : Means) (front h : HistorySeen) (base : Base) (log : List Entry) (refs : RefsSeen) (atoms : AtomsSeen) (tx : TxSeen)
    → IsCut means h base log → IsReplayed means base log refs atoms → HasLastChanges base log refs
    → Begins front h → tx.began ≡ refs_in means front → tx.read_point ≡ point_in front → IsOwn refs tx
is_own means front h base log refs atoms tx cut replayed lasts begins began point conflict_none =
    let changed_none = mapped_none (conflict_on refs.lasts tx.read_point) _ conflict_none in
    ap (option_map (λ r. Foreign (aliens.Value r))) (find_none (λ r. is_protected tx.dones r && changed_after refs.lasts tx.read_point r) (λ r. is_protected tx.dones r && differs_at refs.values tx.began r) _ less changed_none)
  where
    state : state_in means h ≡ Ok (values_now refs atoms)
    state = cut_state means h base log cut ∙ replayed

    same : (r : ℕ) → changed_after refs.lasts tx.read_point r ≡ false → differs_at refs.values tx.began r ≡ false
    same r since =
        let not_after = ltb-false tx.read_point (changed_at refs.lasts r) since in
        let at : changed_in h r ≡ changed_at refs.lasts r = cut_changed means h base log cut r ∙ sym (lasts r) in
        let was : slice_get refs.values r ≡ slice_get (refs_in means front) r = unchanged means front h (values_now refs atoms) r begins state (omega (arith, at, not_after, point)) in
        ap (λ l. differs (slice_get l r) (slice_get refs.values r)) began ∙ (ap (differs (slice_get (refs_in means front) r)) was ∙ same_differs (slice_get (refs_in means front) r))

    by : (protects : Bool) (changed other : Bool) → (changed ≡ false → other ≡ false) → (protects && changed) ≡ false → (protects && other) ≡ false
    by true changed other follows is = follows is
    by false changed other follows is = refl

    less : (r : ℕ) → (is_protected tx.dones r && changed_after refs.lasts tx.read_point r) ≡ false → (is_protected tx.dones r && differs_at refs.values tx.began r) ≡ false
    less r is = by (is_protected tx.dones r) (changed_after refs.lasts tx.read_point r) (differs_at refs.values tx.began r) (same r) is

-- As it was at the point up to which it is known, it is what is known.
pub upto_begins : (front h : HistorySeen) (point : ℕ) → Begins front h → point ≡ point_in front → upto h point ≡ front
upto_begins front h point begins at =
    let count : length front.entries ≡ point - front.start.point = omega (arith, at) in
    ap (λ (b : Base). record { start = b; entries = take (point - b.point) h.entries }) begins.start
    ∙ ap (λ l. record { start = front.start; entries = l }) (ap (take (point - front.start.point)) begins.entries ∙ take_at front.entries begins.more (point - front.start.point) count)

-- ---- what a commit protects

find_none_at : (p : ℕ → Bool) (first n r : ℕ) → find p (range_with_len first n) ≡ None → first ≤ r → r < first + n → p r ≡ false
find_none_at p first zero r none from to = absurd (omega (arith, from, to))
find_none_at p first (suc n) r none from to = by (p first) refl none (λ rest later. find_none_at p (first + 1) n r rest later (omega (arith, to))) (nat_lt first r) refl
  where
    by : (b : Bool) → p first ≡ b → (if b then Some first else find p (range_with_len (first + 1) n)) ≡ None → (find p (range_with_len (first + 1) n) ≡ None → first + 1 ≤ r → p r ≡ false)
        → (later : Bool) → nat_lt first r ≡ later → p r ≡ false
    by true is none rest later at = absurd cc
    by false is none rest true at =
        let below = ltb-true first r at in
        rest none (omega (arith, below))
    by false is none rest false at =
        let past = ltb-false first r at in
        let same : first ≡ r = omega (arith, from, past) in
        subst (λ k. p k ≡ false) same is

later_none : (first later : Option CommitFault) → or_fault first later ≡ None → later ≡ None
later_none None later none = none
later_none (Some fault) later none = absurd cc

first_none : (first later : Option CommitFault) → or_fault first later ≡ None → first ≡ None
first_none None later none = refl
first_none (Some fault) later none = absurd cc

-- What a transaction protects hasn't changed since its read point, if nothing refuses its commit.
pub unmoved : {T : Type 0} (r : Result T CommitFault) (means : Means) (accepts : Accepts) (knows : Known) (world : WorldSeen) (h : HistorySeen) (tx : TxSeen)
    → TellsOrMemory Memory (early_refusal knows world tx) (commit_refusal means accepts knows world tx) r
    → ((k : ℕ) → changed_in h k ≡ changed_at world.refs.lasts k) → length world.refs.lasts ≡ length world.refs.values
    → OnOk r ((k : ℕ) → is_protected tx.dones k ≡ true → changed_in h k ≤ tx.read_point)
unmoved (Err fault) means accepts knows world h tx told lasts same = tt
unmoved (Ok x) means accepts knows world h tx told lasts same = λ k protects.
    let early = first_none (early_refusal knows world tx) _ told in
    let served = later_none (alien world.refs (point_of world + 1) (length world.agents.agents) tx) _ early in
    let known = later_none (lacking knows.funs tx.dones) _ served in
    let fits = later_none (lacking_rule knows.preds world.refs.guards tx.dones) _ known in
    let none = mapped_none (conflict_on world.refs.lasts tx.read_point) _ (first_none (conflict world.refs tx) _ fits) in
    by k protects none (nat_lt k (length world.refs.values)) refl
  where
    is_past : (k : ℕ) → nat_lt k (length world.refs.values) ≡ false → changed_in h k ≤ tx.read_point
    is_past k past =
        let beyond = ltb-false k (length world.refs.values) past in
        let never : changed_at world.refs.lasts k ≡ 0 = get_or_past world.refs.lasts k 0 (omega (arith, beyond, same)) in
        let at = lasts k in
        omega (arith, at, never)

    is_here : (k : ℕ) → is_protected tx.dones k ≡ true → find (λ j. is_protected tx.dones j && changed_after world.refs.lasts tx.read_point j) (range_with_len 0 (length world.refs.values)) ≡ None
        → k < length world.refs.values → changed_in h k ≤ tx.read_point
    is_here k protects none here =
        let test = find_none_at (λ j. is_protected tx.dones j && changed_after world.refs.lasts tx.read_point j) 0 (length world.refs.values) k none (omega arith) (omega (arith, here)) in
        let unchanged : changed_after world.refs.lasts tx.read_point k ≡ false = subst (λ b. (b && changed_after world.refs.lasts tx.read_point k) ≡ false) protects test in
        let since = ltb-false tx.read_point (changed_at world.refs.lasts k) unchanged in
        let at = lasts k in
        omega (arith, at, since)

    by : (k : ℕ) → is_protected tx.dones k ≡ true → find (λ j. is_protected tx.dones j && changed_after world.refs.lasts tx.read_point j) (range_with_len 0 (length world.refs.values)) ≡ None
        → (b : Bool) → nat_lt k (length world.refs.values) ≡ b → changed_in h k ≤ tx.read_point
    by k protects none true is = is_here k protects none (ltb-true k (length world.refs.values) is)
    by k protects none false is = is_past k is

-- ---- what a commit's transaction began with

pub ok_where : {T E P : Type 0} (r : Result T E) → P → OnOk r P
ok_where (Ok x) p = p
ok_where (Err e) p = tt

pub began_at : (means : Means) (tx : TxSeen) (h : HistorySeen) → tx.began ≡ refs_in means h → (r : ℕ) → is_protected tx.dones r ≡ true → slice_get tx.began r ≡ slice_get (refs_in means h) r
began_at means tx h is r protects = ap (λ l. slice_get l r) is

-- A ref that is protected is here, if no operation is on one that isn't.
protected_here : (values : List Edn) (dones : List Done) (r : ℕ) → find (λ d. not (has_ref values d.r)) dones ≡ None → is_protected dones r ≡ true → r < length values
protected_here values [] r none protects = absurd cc
protected_here values (d ∷ ds) r none protects =
    by (has_ref values d.r) refl (d.r == r && not (is_commute d.op)) refl none protects (protected_here values ds r)
  where
    by : (b : Bool) → has_ref values d.r ≡ b → (hits : Bool) → (d.r == r && not (is_commute d.op)) ≡ hits → (if not b then Some d else find (λ e. not (has_ref values e.r)) ds) ≡ None → (hits || is_protected ds r) ≡ true
        → (find (λ e. not (has_ref values e.r)) ds ≡ None → is_protected ds r ≡ true → r < length values) → r < length values
    by false is hits here none protects later = absurd cc
    by true is true here none protects later =
        let same = eqb-true d.r r (and_parts (d.r == r) (not (is_commute d.op)) here).0 in
        let below = ltb-true d.r (length values) is in
        omega (arith, same, below)
    by true is false here none protects later = later none protects

same_there : (began now : Option Edn) (v : Edn) → now ≡ Some v → differs began now ≡ false → began ≡ now
same_there None now v here same = absurd (cc (here, same))
same_there (Some b) None v here same = absurd cc
same_there (Some b) (Some w) v here same = ap Some (same_value b w (not_not (eq_by_cmp edn_cmp b w) same))
  where
    not_not : (x : Bool) → not x ≡ false → x ≡ true
    not_not true is = refl
    not_not false is = absurd cc

get_below : (values : List Edn) (r : ℕ) → r < length values → (v : Edn) × (slice_get values r ≡ Some v)
get_below [] r below = absurd (omega (arith, below))
get_below (x ∷ xs) zero below = (x, refl)
get_below (x ∷ xs) (suc r) below = get_below xs r (omega (arith, below))

-- What was known up to a point that has come begins the history, and comes to that point at least.
pub upto_known : (h : HistorySeen) (point : ℕ) → Begins (upto h point) h
upto_known h point = record { more = drop (point - h.start.point) h.entries; start = refl; entries = sym (take-append-drop (point - h.start.point) h.entries) }

pub upto_far : (h : HistorySeen) (point : ℕ) → point ≤ point_in h → point ≤ point_in (upto h point)
upto_far h point most =
    let count = length-take-le (point - h.start.point) h.entries (omega (arith, most)) in
    omega (arith, count)

before_point : (at point : ℕ) → (if nat_lt point at then None else Some (Foreign (aliens.Point point))) ≡ None → point < at
before_point at point none = by (nat_lt point at) refl none
  where
    by : (b : Bool) → nat_lt point at ≡ b → (if b then None else Some (Foreign (aliens.Point point))) ≡ None → point < at
    by true is none = ltb-true point at is
    by false is none = absurd cc

-- The values of what a transaction protects were compared: they are those of the history at its read point.
pub began_same : {T : Type 0} (r : Result T CommitFault) (means : Means) (accepts : Accepts) (knows : Known) (world : WorldSeen) (h : HistorySeen) (tx : TxSeen)
    → TellsOrMemory Memory (early_refusal knows world tx) (commit_refusal means accepts knows world tx) r
    → IsCut means h world.base world.log → IsReplayed means world.base world.log world.refs world.atoms → HasLastChanges world.base world.log world.refs
    → length world.refs.lasts ≡ length world.refs.values
    → OnOk r ((k : ℕ) → is_protected tx.dones k ≡ true → slice_get tx.began k ≡ slice_get (refs_in means (upto h tx.read_point)) k)
began_same (Err fault) means accepts knows world h tx told cut replayed lasts same = tt
began_same (Ok x) means accepts knows world h tx told cut replayed lasts same = λ k protects.
    let changed : (k : ℕ) → changed_in h k ≡ changed_at world.refs.lasts k = λ k. cut_changed means h world.base world.log cut k ∙ sym (lasts k) in
    let early = first_none (early_refusal knows world tx) _ told in
    let alien_none = first_none (alien world.refs (point_of world + 1) (length world.agents.agents) tx) _ early in
    let here = protected_here world.refs.values tx.dones k (mapped_none (λ d. Foreign (aliens.Ref d.r)) _ (first_none (alien_ref world.refs.values tx.dones) _ alien_none)) protects in
    let agents = later_none (alien_ref world.refs.values tx.dones) _ alien_none in
    let tally = later_none (alien_agent (length world.agents.agents) tx.sends) _ agents in
    let before = before_point (point_of world + 1) tx.read_point (later_none (alien_tally world.refs.tally tx.dones) _ tally) in
    let served = later_none (alien world.refs (point_of world + 1) (length world.agents.agents) tx) _ early in
    let known = later_none (lacking knows.funs tx.dones) _ served in
    let fits = later_none (lacking_rule knows.preds world.refs.guards tx.dones) _ known in
    let none = mapped_none (λ j. Foreign (aliens.Value j)) _ (later_none (conflict world.refs tx) _ fits) in
    let test = find_none_at (λ j. is_protected tx.dones j && differs_at world.refs.values tx.began j) 0 (length world.refs.values) k none (omega arith) (omega (arith, here)) in
    let equal : differs_at world.refs.values tx.began k ≡ false = subst (λ b. (b && differs_at world.refs.values tx.began k) ≡ false) protects test in
    let there = get_below world.refs.values k here in
    let point = cut_point means h world.base world.log cut in
    let since = unmoved (Ok x) means accepts knows world h tx told changed same k protects in
    let far = upto_far h tx.read_point (omega (arith, before, point)) in
    same_there (slice_get tx.began k) (slice_get world.refs.values k) there.0 there.1 equal
    ∙ unchanged means (upto h tx.read_point) h (values_now world.refs world.atoms) k (upto_known h tx.read_point) (cut_state means h world.base world.log cut ∙ replayed) (omega (arith, since, far))
