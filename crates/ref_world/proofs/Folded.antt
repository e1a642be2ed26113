-- A world whose first entries are folded into its base.
use Rattle.std.proofs.Common.{◌≡◌, ℕ, ◌&&◌, ◌+◌, ◌≤◌, ◌^◌, ◌++◌, true, false, Bool, List, length, take, drop, Option, Result, Ok, Err, refl, ap, sym, subst, ◌∙◌, arith, length-append}
use Rattle.std.specs.List.{list_all}
use Rattle.std.specs.Result.{is_ok}
use Rattle.std.proofs.lemmas.List.{take-append-drop}
use Rattle.std.proofs.lemmas.List.Folds.{list_all-append}
use Rattle.std.proofs.lemmas.Bool.{and_parts}
use Rattle.ref_value.specs.Edn.{Edn}
use Rattle.ref_fun.specs.Meaning.{Means}
use Rattle.ref_log.specs.Called.{codes_called, needed_is_called}
use Rattle.ref_log.specs.Fold.{IsFolded}
use Rattle.ref_log.specs.FoldLaws.{commits_of-both, last_change-fold, moved_of-both, replay-fold, replay_from-both}
use Rattle.ref_log.specs.Laws.{replay_from-Err}
use Rattle.ref_log.specs.Replay.{needed, point_after, replay, replay_from, sets_atom, state_of}
use Rattle.ref_log.specs.Tally.{commits_of, fits_entry, moved_of}
use Rattle.ref_log.specs.declared.counting.Side.{Side}
use Rattle.ref_log.specs.declared.counting.Side.TheVariants.{Added, Taken}
use Rattle.ref_log.specs.declared.entries.Entry.{Entry}
use Rattle.ref_log.specs.declared.faults.AuditFault.{AuditFault}
use Rattle.ref_log.specs.declared.states.Base.{Base}
use Rattle.ref_atoms.specs.Atoms.{AtomsSeen}
use Rattle.ref_refs.specs.Seen.{RefsSeen, are_unchanged_since}
use Rattle.ref_world.specs.Seen.{BooksSeen}
use Rattle.ref_world.specs.World.{AreBooks, IsWorld, are_past}

all_later : (p : Entry → Bool) (xs ys : List Entry) → list_all p (xs ++ ys) ≡ true → list_all p ys ≡ true
all_later p xs ys all = (and_parts (list_all p xs) (list_all p ys) (sym (list_all-append p xs ys) ∙ all)).1

-- The first entries of a log that has a replay have one.
pub first_replays : (means : Means) (base : Base) (log : List Entry) (n : ℕ) (fault : AuditFault) → is_ok (replay means base log) ≡ true → replay means base (take n log) ≡ Err fault → ⊥
first_replays means base log n fault ok fails =
    let whole : replay means base log ≡ Err fault = ap (replay means base) (sym (take-append-drop n log))
    ∙ (replay_from-both means base.point (take n log) (drop n log) (Ok (state_of base))
    ∙ (ap (replay_from means (base.point + length (take n log)) (drop n log)) fails
    ∙ replay_from-Err means (base.point + length (take n log)) (drop n log) fault)) in
    let no : true ≡ false = sym ok ∙ ap is_ok whole in
    absurd cc

without_fault : {X : Type 0} (r : Result X AuditFault) → ((fault : AuditFault) → r ≡ Err fault → ⊥) → is_ok r ≡ true
without_fault (Ok x) none = refl
without_fault (Err fault) none = absurd (none fault refl)

-- The replay of the first entries calls what their operations call.
pub first_called : (means : Means) (base : Base) (log : List Entry) (n : ℕ) → is_ok (replay means base log) ≡ true → needed means base (take n log) ≡ codes_called (take n log)
first_called means base log n ok = needed_is_called means base (take n log) (without_fault (replay means base (take n log)) (λ fault. first_replays means base log n fault ok))

-- Of what is counted in all entries, the first have a part.
pub first_commits : (log : List Entry) (n : ℕ) → commits_of (take n log) ≤ commits_of log
first_commits log n =
    let both = commits_of-both (take n log) (drop n log) in
    let all = ap commits_of (take-append-drop n log) in
    omega (arith, both, all)

pub first_moved : (side : Side) (tally : Option ℕ) (log : List Entry) (n : ℕ) → moved_of side tally (take n log) ≤ moved_of side tally log
first_moved side tally log n =
    let both = moved_of-both side tally (take n log) (drop n log) in
    let all = ap (moved_of side tally) (take-append-drop n log) in
    omega (arith, both, all)

-- A base into which no entry is folded stays.
pub none_folded : (means : Means) (base : Base) (log : List Entry) (n : ℕ) → n ≡ 0 → length base.last ≡ length base.refs → IsFolded means base (take n log) base
none_folded means base log n none lasts = subst (λ k. IsFolded means base (take k log) base) (sym none) (record {
  point = omega arith;
  replayed = refl;
  changed = λ r. refl;
  lasts = lasts;
  tally = refl;
  commits = omega arith;
  added = omega arith;
  taken = omega arith;
})

module _ (means : Means) (base : Base) (xs ys : List Entry) (after : Base) (is : IsFolded means base xs after) where
  same_point : point_after base (xs ++ ys) ≡ point_after after ys
  same_point =
      let both = length-append xs ys in
      omega (arith, both, is.point)

  world : (refs : RefsSeen) (atoms : AtomsSeen) (unreleased : List ℕ) → IsWorld means base (xs ++ ys) refs atoms unreleased → IsWorld means after ys refs atoms unreleased
  world refs atoms unreleased was = record {
    replayed = sym (replay-fold means base xs ys after is) ∙ was.replayed;
    changed = λ r. was.changed r ∙ last_change-fold means base xs ys after is r;
    tally = is.tally ∙ was.tally;
    since = subst (λ p. are_unchanged_since refs.lasts p ≡ true) same_point was.since;
    held = subst (λ p. are_past p unreleased ≡ true) same_point was.held;
    limit = subst (λ p. p ≤ 2 ^ 62) same_point was.limit;
    lasts = is.lasts;
    sets = all_later sets_atom xs ys was.sets;
  }

  books : (tally : Option ℕ) (values : List Edn) (seen : BooksSeen) → base.tally ≡ tally → AreBooks base (xs ++ ys) tally values seen → AreBooks after ys tally values seen
  books tally values seen same are =
      let commits = commits_of-both xs ys in
      let up = moved_of-both Added tally xs ys in
      let down = moved_of-both Taken tally xs ys in
      let first_up = subst (λ t. after.added ≡ base.added + moved_of Added t xs) same is.added in
      let first_down = subst (λ t. after.taken ≡ base.taken + moved_of Taken t xs) same is.taken in
      record {
        commits = omega (arith, commits, are.commits, is.commits);
        added = omega (arith, up, are.added, first_up);
        taken = omega (arith, down, are.taken, first_down);
        lawful = all_later (fits_entry tally) xs ys are.lawful;
        holds = are.holds;
        limit = subst (λ p. seen.commits ≤ p) same_point are.limit;
        most_added = are.most_added;
        most_taken = are.most_taken;
      }

-- with the first entries, so many, folded
pub world_folded : (means : Means) (base : Base) (log : List Entry) (n : ℕ) (after : Base) (refs : RefsSeen) (atoms : AtomsSeen) (unreleased : List ℕ)
    → IsFolded means base (take n log) after → IsWorld means base log refs atoms unreleased → IsWorld means after (drop n log) refs atoms unreleased
world_folded means base log n after refs atoms unreleased is was =
    world means base (take n log) (drop n log) after is refs atoms unreleased
    (subst (λ l. IsWorld means base l refs atoms unreleased) (sym (take-append-drop n log)) was)

pub books_folded : (means : Means) (base : Base) (log : List Entry) (n : ℕ) (after : Base) (tally : Option ℕ) (values : List Edn) (seen : BooksSeen)
    → IsFolded means base (take n log) after → base.tally ≡ tally → AreBooks base log tally values seen → AreBooks after (drop n log) tally values seen
books_folded means base log n after tally values seen is same are =
    books means base (take n log) (drop n log) after is tally values seen same
    (subst (λ l. AreBooks base l tally values seen) (sym (take-append-drop n log)) are)
