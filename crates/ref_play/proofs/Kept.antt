-- The replay of the whole history stays what there is now.
use Rattle.std.proofs.Common.{◌≡◌, ℕ, zero, suc, cond, ◌+◌, ◌≤◌, ◌^◌, ◌==◌, not, nat_lt, Bool, true, false, ◌⊎◌, inl, inr, List, [], ◌∷◌, ◌++◌, length, Option, Some, Ok, slice_get, slice_set, slice_index_or, refl, sym, ap, subst, ◌∙◌, arith}
use Rattle.std.proofs.lemmas.Bool.{and_from, and_parts, cases_eq, eq-eqb, le-ltb, ltb-false, ne_eqb, not-true}
use Rattle.ref_value.specs.Edn.{Edn}
use Rattle.ref_fun.specs.Meaning.{Means}
use Rattle.ref_fun.specs.declared.rules.Rule.{Rule}
use Rattle.ref_log.specs.Laws.{is_kept-itself}
use Rattle.ref_log.specs.Replay.{after_found, done_of, is_set, is_touched, place, point_after, step, with_atoms}
use Rattle.ref_log.specs.declared.entries.Entry.{Entry}
use Rattle.ref_log.specs.declared.entries.Entry.TheVariants.{Atom, MadeAtom, MadeRef}
use Rattle.ref_log.specs.declared.entries.Stamp.{Stamp}
use Rattle.ref_log.specs.declared.guards.Guard.{Guard}
use Rattle.ref_log.specs.declared.notices.Who.{Who}
use Rattle.ref_log.specs.declared.notices.Who.TheVariants as who
use Rattle.ref_log.specs.declared.operations.Op.{Op}
use Rattle.ref_log.specs.declared.states.Base.{Base}
use Rattle.ref_agents.specs.Agents.{AgentsSeen, with_unreleased}
use Rattle.ref_atoms.specs.Atoms.{with_atom, with_value}
use Rattle.ref_tx.specs.Seen.{TxSeen}
use Rattle.ref_refs.specs.Commit.{changed_by, entry_of}
use Rattle.ref_refs.specs.Make.{with_ref}
use Rattle.ref_refs.specs.Seen.{are_unchanged_since, changed_at}
use Rattle.ref_play.specs.Present.{IsCommitted, Present, with_guards, with_made_ref}
use Rattle.ref_world.specs.World.{IsWorld, are_past, values_now, with_tally}
use Rattle.ref_world.specs.declared.commits.Receipt.{Receipt}
use Rattle.ref_play.proofs.Later.{last-append, last-here}
use Rattle.ref_world.specs.Entered.{atom_entered, entered, entered_same, held_commit, held_still, since_later}

-- ---- last changes, one by one and all

all_since : (lasts : List ℕ) (p : ℕ) → ((r : ℕ) → slice_index_or lasts r 0 ≤ p) → are_unchanged_since lasts p ≡ true
all_since [] p each = refl
all_since (x ∷ xs) p each = and_from (not (nat_lt p x)) (are_unchanged_since xs p) (ap not (le-ltb p x (each zero))) (all_since xs p (λ r. each (suc r)))

each_since : (lasts : List ℕ) (p : ℕ) → are_unchanged_since lasts p ≡ true → (r : ℕ) → slice_index_or lasts r 0 ≤ p
each_since [] p all r = omega arith
each_since (x ∷ xs) p all zero = ltb-false p x (not-true (nat_lt p x) (and_parts (not (nat_lt p x)) (are_unchanged_since xs p) all).0)
each_since (x ∷ xs) p all (suc r) = each_since xs p (and_parts (not (nat_lt p x)) (are_unchanged_since xs p) all).1 r

either_below : (b : Bool) (at last p : ℕ) → at ≤ p → last ≤ p → cond b at last ≤ p
either_below true at last p here before = here
either_below false at last p here before = before

-- ---- a commit

module _ (means : Means) (base : Base) (log : List Entry) (old : Present) (is : IsWorld means base log old.refs old.atoms old.agents.unreleased) (point : old.point ≡ point_after base log) where
  pub kept_commit : (new : Present) (a : ℕ) (stamp : Stamp) (tx : TxSeen) (receipt : Receipt) (added : List Entry) → IsCommitted means old a stamp tx receipt added new → old.point + 1 ≤ 2 ^ 62
      → IsWorld means base (log ++ entry_of stamp tx ∷ []) new.refs new.atoms new.agents.unreleased
  kept_commit new a stamp tx receipt added did limit =
      let e = entry_of stamp tx in
      let next = point_after base log + 1 in
      let values = subst (λ p. step means (p + 1) e (values_now old.refs old.atoms) ≡ Ok (values_now new.refs new.atoms)) point did.values in
      let lasts = subst (λ p. (r : ℕ) → changed_at new.refs.lasts r ≡ changed_by old.refs.lasts (p + 1) tx.dones r) point did.lasts in
      let since = all_since new.refs.lasts next (λ r.
      let before = each_since old.refs.lasts (point_after base log) is.since r in
      subst (λ n. n ≤ next) (sym (lasts r)) (either_below (is_touched tx.dones r) next (changed_at old.refs.lasts r) next (omega arith) (omega (arith, before)))) in
      let unreleased : new.agents.unreleased ≡ with_unreleased next tx.sends old.agents.unreleased = ap (λ (s : AgentsSeen). s.unreleased) did.agents ∙ ap (λ p. with_unreleased (p + 1) tx.sends old.agents.unreleased) point in
      let held = subst (λ ps. are_past next ps ≡ true) (sym unreleased) (held_commit next tx.sends old.agents.unreleased (held_still means base log old.refs old.atoms old.agents.unreleased is)) in
      entered_same means base log old.refs old.atoms old.agents.unreleased is e new.refs new.atoms new.agents.unreleased values lasts since held (subst (λ p. p + 1 ≤ 2 ^ 62) point limit) refl did.tally

  -- ---- a change of an atom

  atom_step : (a : ℕ) (op : Op) (v w : Edn) (p : ℕ) (there : Option Edn) → there ≡ Some v → place means op v ≡ Ok w
      → after_found means false p (done_of a op w) old.atoms.values there ≡ Ok (slice_set old.atoms.values a w)
  atom_step a op v w p there here gives = rw (here, gives, is_kept-itself (done_of a op w)) refl

  pub kept_atom : (a : ℕ) (op : Op) (v w : Edn) → is_set op ≡ true → slice_get old.atoms.values a ≡ Some v → place means op v ≡ Ok w → old.point + 1 ≤ 2 ^ 62
      → IsWorld means base (log ++ Atom a op w ∷ []) old.refs (with_value old.atoms a w) old.agents.unreleased
  kept_atom a op v w sets here gives limit =
      atom_entered means base log old.refs old.atoms old.agents.unreleased is (Atom a op w) (with_value old.atoms a w) a w
      (λ refs. ap (with_atoms (record { refs = refs; atoms = old.atoms.values })) (atom_step a op v w (point_after base log + 1) (slice_get old.atoms.values a) here gives))
      refl (λ n r. refl) (subst (λ p. p + 1 ≤ 2 ^ 62) point limit) sets

  -- ---- an atom that is made

  pub kept_made_atom : (value : Edn) (rule : Option Rule) → old.point + 1 ≤ 2 ^ 62
      → IsWorld means base (log ++ MadeAtom value ∷ []) old.refs (with_atom old.atoms value rule) old.agents.unreleased
  kept_made_atom value rule limit =
      entered_same means base log old.refs old.atoms old.agents.unreleased is (MadeAtom value) old.refs (with_atom old.atoms value rule) old.agents.unreleased refl (λ r. refl)
      (since_later old.refs.lasts (point_after base log) is.since) (held_still means base log old.refs old.atoms old.agents.unreleased is) (subst (λ p. p + 1 ≤ 2 ^ 62) point limit) refl refl

  -- ---- a ref that is made

  made_last : (lasts : List ℕ) (at n r : ℕ) → length lasts ≡ n → slice_index_or (lasts ++ at ∷ []) r 0 ≡ cond (n == r) at (slice_index_or lasts r 0)
  made_last lasts at n r count = by (cases_eq n r) where
    by : (n ≡ r) ⊎ (n ≡ r → ⊥) → slice_index_or (lasts ++ at ∷ []) r 0 ≡ cond (n == r) at (slice_index_or lasts r 0)
    by (inl same) = rw (eq-eqb n r same) (subst (λ q. slice_index_or (lasts ++ at ∷ []) q 0 ≡ at) (count ∙ same) (last-here lasts at))
    by (inr other) = rw (ne_eqb n r other) (last-append lasts at r (λ same. other (sym count ∙ same)))

  pub kept_made : (new : Present) (value : Edn) (rule : Option Rule) (tally : Bool) → length old.refs.lasts ≡ length old.refs.values → old.point + 1 ≤ 2 ^ 62
      → new ≡ with_made_ref old value rule tally
      → IsWorld means (with_tally new.refs.tally base) (log ++ MadeRef value ∷ []) new.refs new.atoms new.agents.unreleased
  kept_made new value rule tally count limit did = subst (λ (n : Present). IsWorld means (with_tally n.refs.tally base) (log ++ MadeRef value ∷ []) n.refs n.atoms n.agents.unreleased) (sym did) made where
    made : IsWorld means (with_tally (with_ref old.refs (old.point + 1) value rule tally).tally base) (log ++ MadeRef value ∷ []) (with_ref old.refs (old.point + 1) value rule tally) old.atoms old.agents.unreleased
    made =
        let next = point_after base log + 1 in
        let after = with_ref old.refs (old.point + 1) value rule tally in
        let lasts : (r : ℕ) → changed_at after.lasts r ≡ cond (length old.refs.values == r) next (changed_at old.refs.lasts r) = λ r. made_last old.refs.lasts (old.point + 1) (length old.refs.values) r count ∙ ap (λ p. cond (length old.refs.values == r) (p + 1) (changed_at old.refs.lasts r)) point in
        let since = all_since after.lasts next (λ r.
        let before = each_since old.refs.lasts (point_after base log) is.since r in
        subst (λ n. n ≤ next) (sym (lasts r)) (either_below (length old.refs.values == r) next (changed_at old.refs.lasts r) next (omega arith) (omega (arith, before)))) in
        entered means base log old.refs old.atoms old.agents.unreleased is (MadeRef value) after old.atoms old.agents.unreleased refl lasts since (held_still means base log old.refs old.atoms old.agents.unreleased is) (subst (λ p. p + 1 ≤ 2 ^ 62) point limit) refl

-- ---- other rules

pub kept_guards : (means : Means) (base : Base) (log : List Entry) (old : Present) (w : Who) (gs : List Guard) → IsWorld means base log old.refs old.atoms old.agents.unreleased
    → IsWorld means base log (with_guards old w gs).refs (with_guards old w gs).atoms (with_guards old w gs).agents.unreleased
kept_guards means base log old (who.Ref r) gs is = record { replayed = is.replayed; changed = is.changed; tally = is.tally; since = is.since; held = is.held; limit = is.limit; lasts = is.lasts; sets = is.sets }
kept_guards means base log old (who.Atom a) gs is = record { replayed = is.replayed; changed = is.changed; tally = is.tally; since = is.since; held = is.held; limit = is.limit; lasts = is.lasts; sets = is.sets }
kept_guards means base log old (who.Agent g) gs is = is
