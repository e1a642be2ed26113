-- The books of a world with an entry more.
use Rattle.std.proofs.Common.{◌≡◌, ℕ, ◌&&◌, ◌+◌, ◌≤◌, ◌∷◌, ◌++◌, [], ◌||◌, not, is_some, true, false, Bool, List, length, Option, None, Some, Ok, cond, refl, ◌∙◌, arith}
use Rattle.std.specs.List.{list_all}
use Rattle.std.proofs.lemmas.List.Folds.{list_all-append}
use Rattle.std.proofs.lemmas.Bool.{and_from}
use Rattle.ref_value.specs.Edn.{Edn}
use Rattle.ref_fun.specs.Meaning.{Means}
use Rattle.ref_log.specs.Replay.{replay}
use Rattle.ref_log.specs.Tally.{IsMoved, commits_in, counted, fits_entry, is_count, moved_in}
use Rattle.ref_log.specs.TallyLaws.{books-append, books-made, commits_of-append, moved_of-append, moved_of-none, replay-fresh}
use Rattle.ref_log.specs.declared.counting.Side.TheVariants.{Added, Taken}
use Rattle.ref_log.specs.declared.entries.Entry.{Entry}
use Rattle.ref_log.specs.declared.entries.Entry.TheVariants.{MadeRef}
use Rattle.ref_log.specs.declared.states.Base.{Base}
use Rattle.ref_world.specs.Seen.{BooksSeen}
use Rattle.ref_world.specs.World.{AreBooks, IsUncounted, booked, most_booked, with_tally}
use Rattle.ref_world.specs.Entered.{point_more}
use Rattle.ref_world.proofs.Starting.{is_count_of}

fits_more : (tally : Option ℕ) (log : List Entry) (e : Entry) → list_all (fits_entry tally) log ≡ true → fits_entry tally e ≡ true → list_all (fits_entry tally) (log ++ e ∷ []) ≡ true
fits_more tally log e all one =
    list_all-append (fits_entry tally) log (e ∷ []) ∙ and_from (list_all (fits_entry tally) log) (fits_entry tally e && true) all (and_from (fits_entry tally e) true one refl)

module _ (base : Base) (log : List Entry) (tally : Option ℕ) (values : List Edn) (books : BooksSeen) (are : AreBooks base log tally values books) where
  -- with any entry more that counts so many commits and moves the tally so far
  more : (e : Entry) (after : List Edn) (then : BooksSeen) → fits_entry tally e ≡ true → then.commits ≡ books.commits + commits_in e
      → then.added ≡ books.added + moved_in Added tally e → then.taken ≡ books.taken + moved_in Taken tally e → commits_in e ≤ 1
      → then.added ≤ most_booked → then.taken ≤ most_booked → IsMoved tally after then.start then.added then.taken → AreBooks base (log ++ e ∷ []) tally after then
  more e after then fits commits added taken one most_added most_taken is =
      let commits_then = commits_of-append log e in
      let added_then = moved_of-append Added tally log e in
      let taken_then = moved_of-append Taken tally log e in
      let point = point_more base log e in
      record {
        commits = omega (arith, commits, commits_then, are.commits);
        added = omega (arith, added, added_then, are.added);
        taken = omega (arith, taken, taken_then, are.taken);
        lawful = fits_more tally log e are.lawful fits;
        holds = is;
        limit = omega (arith, commits, are.limit, point, one);
        most_added = most_added;
        most_taken = most_taken;
      }

  -- a commit that moves the tally so far, where the books can take it
  pub books_committed : (e : Entry) (tally_after : Option ℕ) (after : List Edn) (added taken : ℕ) (then : BooksSeen)
      → fits_entry tally e ≡ true → commits_in e ≡ 1 → tally_after ≡ tally → added ≡ moved_in Added tally e → taken ≡ moved_in Taken tally e
      → books.added + added ≤ most_booked → books.taken + taken ≤ most_booked
      → IsMoved tally after books.start (books.added + added) (books.taken + taken) → then ≡ booked books added taken → AreBooks base (log ++ e ∷ []) tally_after after then
  books_committed e tally_after after added taken then fits one same up down most_added most_taken is counted =
      rw (same, counted) (more e after (booked books added taken) fits (omega (arith, one)) (omega (arith, up)) (omega (arith, down)) (omega (arith, one)) most_added most_taken is)

  -- an entry that isn't one
  pub books_same : (e : Entry) (after : List Edn) → IsUncounted tally e → IsMoved tally after books.start books.added books.taken → AreBooks base (log ++ e ∷ []) tally after books
  books_same e after uncounted is =
      more e after books uncounted.3 (omega (arith, uncounted.0)) (omega (arith, uncounted.1)) (omega (arith, uncounted.2)) (omega (arith, uncounted.0)) are.most_added are.most_taken is

  rebased : (t : Option ℕ) → AreBooks (with_tally t base) log tally values books
  rebased t = record {
    commits = are.commits;
    added = are.added;
    taken = are.taken;
    lawful = are.lawful;
    holds = are.holds;
    limit = are.limit;
    most_added = are.most_added;
    most_taken = are.most_taken;
  }

-- A ref that is made as the tally is in no entry before, so that it wasn't moved.
started : (means : Means) (base : Base) (log : List Entry) (values atoms : List Edn) (books : BooksSeen) (v : Edn) (then : BooksSeen)
    → AreBooks base log None values books → replay means base log ≡ Ok (record { refs = values; atoms = atoms })
    → is_count (v ∷ []) ≡ true → then ≡ record books { start = counted (v ∷ []) }
    → AreBooks (with_tally (Some (length values)) base) (log ++ MadeRef v ∷ []) (Some (length values)) (values ++ v ∷ []) then
started means base log values atoms books v then are replayed is counted_as =
    let t = length values in
    let up = replay-fresh Added means base log t (record { refs = values; atoms = atoms }) replayed (omega arith) in
    let down = replay-fresh Taken means base log t (record { refs = values; atoms = atoms }) replayed (omega arith) in
    let none_up = moved_of-none Added log in
    let none_down = moved_of-none Taken log in
    let commits_then = commits_of-append log (MadeRef v) in
    let added_then = moved_of-append Added (Some t) log (MadeRef v) in
    let taken_then = moved_of-append Taken (Some t) log (MadeRef v) in
    let point = point_more base log (MadeRef v) in
    let made = books-made values v is in
    rw counted_as (record {
      commits = omega (arith, commits_then, are.commits);
      added = omega (arith, added_then, are.added, none_up, up.0);
      taken = omega (arith, taken_then, are.taken, none_down, down.0);
      lawful = fits_more (Some t) log (MadeRef v) up.1 refl;
      holds = rw (are.holds.1, are.holds.2) made;
      limit = omega (arith, are.limit, point);
      most_added = are.most_added;
      most_taken = are.most_taken;
    })

-- a ref that is made, as the tally or not
pub books_made : (means : Means) (base : Base) (log : List Entry) (tally : Option ℕ) (values atoms : List Edn) (books : BooksSeen) (v : Edn) (b : Bool) (tally_after : Option ℕ) (after : List Edn) (then : BooksSeen)
    → AreBooks base log tally values books → replay means base log ≡ Ok (record { refs = values; atoms = atoms })
    → (b && (is_some tally || not (is_count (v ∷ [])))) ≡ false
    → tally_after ≡ cond b (Some (length values)) tally → after ≡ values ++ v ∷ [] → then ≡ record books { start = cond b (counted (v ∷ [])) books.start }
    → AreBooks (with_tally tally_after base) (log ++ MadeRef v ∷ []) tally_after after then
books_made means base log tally values atoms books v false tally_after after then are replayed good same made is =
    rw (same, made, is) (books_same (with_tally tally base) log tally values books (rebased base log tally values books are tally) (MadeRef v) (values ++ v ∷ []) (refl, refl, refl, refl) (books-append tally values v books.start books.added books.taken are.holds))
books_made means base log None values atoms books v true tally_after after then are replayed good same made is =
    rw (same, made) (started means base log values atoms books v then are replayed (is_count_of false (is_count (v ∷ [])) good) is)
books_made means base log (Some t) values atoms books v true tally_after after then are replayed good same made is = absurd cc
