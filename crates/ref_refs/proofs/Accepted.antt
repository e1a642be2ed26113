-- After a commit whose guards were asked each rule accepts again.
use Rattle.std.proofs.Common.{◌≡◌, ℕ, zero, suc, ◌<◌, ◌==◌, ◌&&◌, ◌||◌, not, cond, Bool, true, false, List, [], ◌∷◌, length, Option, None, Some, Ok, get_or, refl, sym, ap, subst, ◌∙◌, arith}
use Rattle.std.specs.BTreeSet.{insert_key}
use Rattle.std.specs.List.{AllByRecursion, find}
use Rattle.std.specs.Option.{option_map}
use Rattle.std.specs.Ordering.{nat_cmp, match_ordering}
use Rattle.std.specs.declared.cmp.Ordering.{Ordering}
use Rattle.std.specs.declared.cmp.Ordering.TheVariants.{Less, Equal, Greater}
use Rattle.std.specs.FinMap.{nat_cmp-IsAntisymmetric}
use Rattle.std.proofs.lemmas.Bool.{eqb-true}
use Rattle.ref_value.specs.Edn.{Edn}
use Rattle.ref_fun.specs.Meaning.{Means}
use Rattle.ref_fun.specs.Rule.{Accepts, unknown}
use Rattle.ref_log.specs.Guards.{AreAccepted, is_accepted_at, passes_if_here, rule_at}
use Rattle.ref_log.specs.declared.guards.Guard.{Guard}
use Rattle.ref_log.specs.Laws.{after_dones-untouched}
use Rattle.ref_log.specs.Replay.{after_dones, is_ensure, is_touched}
use Rattle.ref_log.specs.declared.operations.Done.{Done}
use Rattle.ref_refs.specs.Commit.{first_invalid, lacking_rule, needed_rule, or_fault}
use Rattle.ref_refs.specs.Rules.{AreKnown}
use Rattle.ref_refs.specs.Watches.{touched_from, touched_refs}
use Rattle.ref_refs.specs.declared.faults.CommitFault.{CommitFault}
use Rattle.ref_refs.specs.declared.faults.CommitFault.TheVariants.{NoSuchFun}
use Rattle.ref_refs.proofs.Refs.{among, no_map}

-- ---- what is known of the refs that are touched

module _ (P : ℕ → Type 0) where
  pub all_insert : (rs : List ℕ) (r : ℕ) → P r → AllByRecursion P rs → AllByRecursion P (insert_key nat_cmp rs r)
  all_insert [] r p h = (p, tt)
  all_insert (x ∷ xs) r p h = by (nat_cmp r x) (all_insert xs r p h.1)
    where
      by : (o : Ordering) → AllByRecursion P (insert_key nat_cmp xs r) → AllByRecursion P (match_ordering o (r ∷ x ∷ xs) (x ∷ xs) (x ∷ insert_key nat_cmp xs r))
      by Less k = (p, h)
      by Equal k = h
      by Greater k = (h.0, k)

  all_at : (rs : List ℕ) (i : ℕ) → AllByRecursion P rs → i < length rs → P (get_or rs i 0)
  all_at [] i h below = absurd (omega (arith, below))
  all_at (x ∷ xs) zero h below = h.0
  all_at (x ∷ xs) (suc i) h below = all_at xs i h.1 (omega (arith, below))

none_parts : (a b : Option CommitFault) → or_fault a b ≡ None → (a ≡ None) × (b ≡ None)
none_parts None b e = (refl, e)
none_parts (Some fault) b e = absurd cc

module _ (knows : ℕ → Bool) (guards : List Guard) where
  abbrev Known : ℕ → Type 0
  Known r = unknown knows (rule_at guards r) ≡ None

  known_from : (rs : List ℕ) (ds : List Done) → AreKnown knows guards rs → lacking_rule knows guards ds ≡ None → AreKnown knows guards (touched_from rs ds)
  known_from rs [] known none = known
  known_from rs (d ∷ ds) known none = by (is_ensure d.op) refl (λ more k. known_from more ds k parts.1)
    where
      parts : (option_map NoSuchFun (unknown knows (needed_rule guards d)) ≡ None) × (lacking_rule knows guards ds ≡ None)
      parts = none_parts (option_map NoSuchFun (unknown knows (needed_rule guards d))) (lacking_rule knows guards ds) none

      by : (b : Bool) → is_ensure d.op ≡ b → ((more : List ℕ) → AreKnown knows guards more → AreKnown knows guards (touched_from more ds)) → AreKnown knows guards (touched_from (cond b rs (insert_key nat_cmp rs d.r)) ds)
      by true e next = next rs known
      by false e next = next (insert_key nat_cmp rs d.r) (all_insert Known rs d.r (subst (λ b. unknown knows (cond b None (rule_at guards d.r)) ≡ None) e (no_map NoSuchFun (unknown knows (needed_rule guards d)) parts.0)) known)

pub known_touched : (knows : ℕ → Bool) (guards : List Guard) (ds : List Done) → lacking_rule knows guards ds ≡ None → AreKnown knows guards (touched_refs ds)
known_touched knows guards ds none = known_from knows guards [] ds tt none

pub known_at : (knows : ℕ → Bool) (guards : List Guard) (rs : List ℕ) (i : ℕ) → AreKnown knows guards rs → i < length rs → unknown knows (rule_at guards (get_or rs i 0)) ≡ None
known_at knows guards rs i known below = all_at (λ r. unknown knows (rule_at guards r) ≡ None) rs i known below

-- ---- a ref that is touched is among the refs that are touched

among_insert : (rs : List ℕ) (k r : ℕ) → among (insert_key nat_cmp rs k) r ≡ ((k == r) || among rs r)
among_insert [] k r = refl
among_insert (x ∷ xs) k r = by (nat_cmp k x) refl (among_insert xs k r)
  where
    absorbs : (a b : Bool) → (a || b) ≡ (a || (a || b))
    absorbs true b = refl
    absorbs false b = refl

    turns : (a b c : Bool) → (b || (a || c)) ≡ (a || (b || c))
    turns true true c = refl
    turns true false c = refl
    turns false b c = refl

    by : (o : Ordering) → nat_cmp k x ≡ o → among (insert_key nat_cmp xs k) r ≡ ((k == r) || among xs r) → among (match_ordering o (k ∷ x ∷ xs) (x ∷ xs) (x ∷ insert_key nat_cmp xs k)) r ≡ ((k == r) || ((x == r) || among xs r))
    by Less e h = refl
    by Equal e h = rw (nat_cmp-IsAntisymmetric k x e) (absorbs (x == r) (among xs r))
    by Greater e h = rw h (turns (k == r) (x == r) (among xs r))

pub among_from : (rs : List ℕ) (ds : List Done) (r : ℕ) → among (touched_from rs ds) r ≡ (among rs r || is_touched ds r)
among_from rs [] r = by (among rs r)
  where
    by : (b : Bool) → b ≡ (b || false)
    by true = refl
    by false = refl
among_from rs (d ∷ ds) r = by (is_ensure d.op) (λ more. among_from more ds r)
  where
    skips : (a b c : Bool) → (a || c) ≡ (a || ((b && false) || c))
    skips a true c = refl
    skips a false c = refl

    joins : (a b c : Bool) → ((b || a) || c) ≡ (a || ((b && true) || c))
    joins true true c = refl
    joins true false c = refl
    joins false true c = refl
    joins false false c = refl

    by : (b : Bool) → ((more : List ℕ) → among (touched_from more ds) r ≡ (among more r || is_touched ds r)) → among (touched_from (cond b rs (insert_key nat_cmp rs d.r)) ds) r ≡ (among rs r || (((d.r == r) && not b) || is_touched ds r))
    by true next = next rs ∙ skips (among rs r) (d.r == r) (is_touched ds r)
    by false next = next (insert_key nat_cmp rs d.r) ∙ (ap (λ b. b || is_touched ds r) (among_insert rs d.r r) ∙ joins (among rs r) (d.r == r) (is_touched ds r))

-- ---- the rules

none_among : (p : ℕ → Bool) (rs : List ℕ) (r : ℕ) → find p rs ≡ None → among rs r ≡ true → p r ≡ false
none_among p [] r none h = absurd cc
none_among p (x ∷ xs) r none h = by (p x) refl none (x == r) refl h (λ n k. none_among p xs r n k)
  where
    by : (b : Bool) → p x ≡ b → cond b (Some x) (find p xs) ≡ None → (c : Bool) → (x == r) ≡ c → (c || among xs r) ≡ true → (find p xs ≡ None → among xs r ≡ true → p r ≡ false) → p r ≡ false
    by true e n c f k next = absurd cc
    by false e n true f k next = ap p (sym (eqb-true x r f)) ∙ e
    by false e n false f k next = next n k

pub accepted_after : (means : Means) (accepts : Accepts) (guards : List Guard) (ds : List Done) (point : ℕ) (before after : List Edn)
    → after_dones means ds point ds (Ok before) ≡ Ok after → AreAccepted accepts guards before → first_invalid accepts guards after (touched_refs ds) ≡ None → AreAccepted accepts guards after
accepted_after means accepts guards ds point before after made accepted none r = by (is_touched ds r) refl
  where
    undo : (b : Bool) → not b ≡ false → b ≡ true
    undo true e = refl
    undo false e = absurd cc

    by : (b : Bool) → is_touched ds r ≡ b → is_accepted_at accepts guards after r ≡ true
    by true e = undo (is_accepted_at accepts guards after r) (none_among (λ x. not (is_accepted_at accepts guards after x)) (touched_refs ds) r none (among_from [] ds r ∙ e))
    by false e = ap (passes_if_here accepts (rule_at guards r)) (after_dones-untouched means ds point ds before after r made e) ∙ accepted r
