-- A world with an entry more.
use Rattle.std.proofs.Common.{◌≡◌, ℕ, ◌&&◌, ◌+◌, ◌≤◌, ◌∷◌, ◌++◌, [], Bool, Ordering, Less, Equal, Greater, cond, not, nat_lt, true, false, List, length, Ok, slice_set, refl, ap, sym, subst, ◌∙◌, arith}
use Rattle.std.specs.List.{list_all}
use Rattle.std.proofs.lemmas.List.Folds.{list_all-append}
use Rattle.std.proofs.lemmas.Bool.{and_from, and_parts, le-ltb, ltb-false, not-true}
use Rattle.std.specs.BTreeSet.{insert_key}
use Rattle.std.specs.Ordering.{match_ordering, nat_cmp}
use Rattle.std.specs.Set.{remove_key}
use Rattle.ref_value.specs.Edn.{Edn}
use Rattle.ref_fun.specs.Meaning.{Means}
use Rattle.ref_agents.specs.Agents.{with_unreleased}
use Rattle.ref_atoms.specs.Atoms.{AtomsSeen}
use Rattle.ref_log.specs.Laws.{last_change-append, replay-more, replay-refs}
use Rattle.ref_log.specs.Replay.{is_changed_by, point_after, refs_after, sets_atom, step}
use Rattle.ref_log.specs.declared.entries.Entry.{Entry}
use Rattle.ref_log.specs.declared.sends.Sent.{Sent}
use Rattle.ref_log.specs.declared.states.Base.{Base}
use Rattle.ref_refs.specs.Seen.{RefsSeen, are_unchanged_since, changed_at}
use Rattle.ref_world.specs.World.{HasLastChanges, IsWorld, are_past, values_now, with_tally}
use Rattle.ref_log.specs.Limits.{last_point}

length_more : (log : List Entry) (e : Entry) → length (log ++ e ∷ []) ≡ length log + 1
length_more [] e = refl
length_more (x ∷ xs) e =
    let more = length_more xs e in
    omega (arith, more)

pub point_more : (base : Base) (log : List Entry) (e : Entry) → point_after base log + 1 ≡ point_after base (log ++ e ∷ [])
point_more base log e =
    let more = length_more log e in
    omega (arith, more)

-- No ref has changed after the point that follows, either.
not_later : (p last : ℕ) → not (nat_lt p last) ≡ true → not (nat_lt (p + 1) last) ≡ true
not_later p last is =
    let below = ltb-false p last (not-true (nat_lt p last) is) in
    ap not (le-ltb (p + 1) last (omega (arith, below)))

pub since_later : (lasts : List ℕ) (p : ℕ) → are_unchanged_since lasts p ≡ true → are_unchanged_since lasts (p + 1) ≡ true
since_later [] p is = refl
since_later (x ∷ xs) p is =
    let parts = and_parts (not (nat_lt p x)) (are_unchanged_since xs p) is in
    and_from (not (nat_lt (p + 1) x)) (are_unchanged_since xs (p + 1)) (not_later p x parts.0) (since_later xs p parts.1)

-- A commit's point is held next to those that were.
held_at : (p k x : ℕ) (xs : List ℕ) (o : Ordering) → not (nat_lt p k) ≡ true → (not (nat_lt p x) && are_past p xs) ≡ true → are_past p (insert_key nat_cmp xs k) ≡ true
    → are_past p (match_ordering o (k ∷ x ∷ xs) (x ∷ xs) (x ∷ insert_key nat_cmp xs k)) ≡ true
held_at p k x xs Less here are later = and_from (not (nat_lt p k)) (not (nat_lt p x) && are_past p xs) here are
held_at p k x xs Equal here are later = are
held_at p k x xs Greater here are later = and_from (not (nat_lt p x)) (are_past p (insert_key nat_cmp xs k)) (and_parts (not (nat_lt p x)) (are_past p xs) are).0 later

held_more : (p k : ℕ) (points : List ℕ) → not (nat_lt p k) ≡ true → are_past p points ≡ true → are_past p (insert_key nat_cmp points k) ≡ true
held_more p k [] here are = and_from (not (nat_lt p k)) true here refl
held_more p k (x ∷ xs) here are =
    held_at p k x xs (nat_cmp k x) here are (held_more p k xs here (and_parts (not (nat_lt p x)) (are_past p xs) are).1)

pub held_commit : (p : ℕ) (sends : List Sent) (points : List ℕ) → are_past p points ≡ true → are_past p (with_unreleased p sends points) ≡ true
held_commit p [] points are = are
held_commit p (s ∷ ss) points are = held_more p p points (ap not (le-ltb p p (omega arith))) are

-- Fewer are held after a release.
pub held_fewer : (p : ℕ) (test : ℕ → Bool) (points : List ℕ) → are_past p points ≡ true → are_past p (remove_key test points) ≡ true
held_fewer p test [] are = refl
held_fewer p test (x ∷ xs) are = held_fewer_at p test x xs (test x) are (held_fewer p test xs (and_parts (not (nat_lt p x)) (are_past p xs) are).1) where
  held_fewer_at : (p : ℕ) (test : ℕ → Bool) (x : ℕ) (xs : List ℕ) (b : Bool) → (not (nat_lt p x) && are_past p xs) ≡ true → are_past p (remove_key test xs) ≡ true → are_past p (cond b xs (x ∷ remove_key test xs)) ≡ true
  held_fewer_at p test x xs true are later = (and_parts (not (nat_lt p x)) (are_past p xs) are).1
  held_fewer_at p test x xs false are later = and_from (not (nat_lt p x)) (are_past p (remove_key test xs)) (and_parts (not (nat_lt p x)) (are_past p xs) are).0 later

module _ (means : Means) (base : Base) (log : List Entry) (refs : RefsSeen) (atoms : AtomsSeen) (unreleased : List ℕ) (is : IsWorld means base log refs atoms unreleased) where
  count : length refs.values ≡ refs_after (length base.refs) log
  count = replay-refs means base log (values_now refs atoms) is.replayed

  changed_then : (e : Entry) (after : RefsSeen) → ((r : ℕ) → changed_at after.lasts r ≡ cond (is_changed_by (length refs.values) e r) (point_after base log + 1) (changed_at refs.lasts r)) → HasLastChanges base (log ++ e ∷ []) after
  changed_then e after moved r =
      let point = point_after base log + 1 in
      moved r
      ∙ (ap (λ n. cond (is_changed_by n e r) point (changed_at refs.lasts r)) count
      ∙ (ap (λ x. cond (is_changed_by (refs_after (length base.refs) log) e r) point x) (is.changed r)
      ∙ sym (last_change-append base log e r)))

  -- what was held before is held then
  pub held_still : are_past (point_after base log + 1) unreleased ≡ true
  held_still = since_later unreleased (point_after base log) is.held

  -- where others are held
  pub held_as : (after : List ℕ) → are_past (point_after base log) after ≡ true → IsWorld means base log refs atoms after
  held_as after held = record {
    replayed = is.replayed;
    changed = is.changed;
    tally = is.tally;
    since = is.since;
    held = held;
    limit = is.limit;
    lasts = is.lasts;
    sets = is.sets;
  }

  -- The base names the tally that the refs have then.
  pub entered : (e : Entry) (after : RefsSeen) (atoms_after : AtomsSeen) (held_after : List ℕ)
      → step means (point_after base log + 1) e (values_now refs atoms) ≡ Ok (values_now after atoms_after)
      → ((r : ℕ) → changed_at after.lasts r ≡ cond (is_changed_by (length refs.values) e r) (point_after base log + 1) (changed_at refs.lasts r))
      → are_unchanged_since after.lasts (point_after base log + 1) ≡ true
      → are_past (point_after base log + 1) held_after ≡ true
      → point_after base log + 1 ≤ last_point
      → sets_atom e ≡ true
      → IsWorld means (with_tally after.tally base) (log ++ e ∷ []) after atoms_after held_after
  entered e after atoms_after held_after next moved since held limit sets = record {
    replayed = replay-more means base log e (values_now refs atoms) (values_now after atoms_after) is.replayed next;
    changed = changed_then e after moved;
    tally = refl;
    since = subst (λ p. are_unchanged_since after.lasts p ≡ true) (point_more base log e) since;
    held = subst (λ p. are_past p held_after ≡ true) (point_more base log e) held;
    limit = subst (λ p. p ≤ last_point) (point_more base log e) limit;
    lasts = is.lasts;
    sets = list_all-append sets_atom log (e ∷ []) ∙ and_from (list_all sets_atom log) (sets_atom e && true) is.sets (and_from (sets_atom e) true sets refl);
  }

  -- where the tally stays, so does the base
  pub entered_same : (e : Entry) (after : RefsSeen) (atoms_after : AtomsSeen) (held_after : List ℕ)
      → step means (point_after base log + 1) e (values_now refs atoms) ≡ Ok (values_now after atoms_after)
      → ((r : ℕ) → changed_at after.lasts r ≡ cond (is_changed_by (length refs.values) e r) (point_after base log + 1) (changed_at refs.lasts r))
      → are_unchanged_since after.lasts (point_after base log + 1) ≡ true
      → are_past (point_after base log + 1) held_after ≡ true
      → point_after base log + 1 ≤ last_point
      → sets_atom e ≡ true
      → after.tally ≡ refs.tally
      → IsWorld means base (log ++ e ∷ []) after atoms_after held_after
  entered_same e after atoms_after held_after next moved since held limit sets tally =
      subst (λ t. IsWorld means (with_tally t base) (log ++ e ∷ []) after atoms_after held_after) (tally ∙ sym is.tally) (entered e after atoms_after held_after next moved since held limit sets)

  -- an entry about an atom
  pub atom_entered : (e : Entry) (atoms_after : AtomsSeen) (a : ℕ) (v : Edn)
      → ((refs : List Edn) → step means (point_after base log + 1) e (record { refs = refs; atoms = atoms.values }) ≡ Ok (record { refs = refs; atoms = slice_set atoms.values a v }))
      → atoms_after.values ≡ slice_set atoms.values a v
      → ((n r : ℕ) → is_changed_by n e r ≡ false)
      → point_after base log + 1 ≤ last_point
      → sets_atom e ≡ true
      → IsWorld means base (log ++ e ∷ []) refs atoms_after unreleased
  atom_entered e atoms_after a v next set leaves limit sets =
      let point = point_after base log + 1 in
      entered_same e refs atoms_after unreleased
      (next refs.values ∙ ap (λ vs. Ok (record { refs = refs.values; atoms = vs })) (sym set))
      (λ r. ap (λ b. cond b point (changed_at refs.lasts r)) (sym (leaves (length refs.values) r)))
      (since_later refs.lasts (point_after base log) is.since) held_still limit sets refl
