-- What a conflict that is returned says of the transaction.
use Rattle.std.specs.Prelude.{◌≡◌, ℕ, ◌<◌, nat_lt, Bool, true, false, not, cond, ◌&&◌, ◌||◌, List, [], ◌∷◌, length, Option, None, Some, Result, Ok, Err, refl, slice_get, slice_set}
use Rattle.std.proofs.Common.{subst, sym, ◌∙◌}
use Rattle.std.proofs.lemmas.Bool.{and_parts, ltb-true}
use Rattle.std.specs.List.{find, range_with_len}
use Rattle.std.specs.Option.{option_map}
use Rattle.ref_value.specs.Edn.{Edn}
use Rattle.ref_fun.specs.declared.faults.Cause.{Cause}
use Rattle.ref_fun.specs.Calls.{Known}
use Rattle.ref_fun.specs.Meaning.{Means}
use Rattle.ref_fun.specs.Rule.{Accepts, unknown}
use Rattle.ref_log.specs.Replay.{after_dones, is_protected, missing, place}
use Rattle.ref_log.specs.Tally.{fit_tally, moved_by_dones}
use Rattle.ref_log.specs.declared.counting.Side.TheVariants.{Added, Taken}
use Rattle.ref_log.specs.Told.{TellsFault}
use Rattle.ref_log.specs.declared.faults.AuditFault.{AuditFault}
use Rattle.ref_log.specs.declared.guards.Guard.{Guard}
use Rattle.ref_log.specs.declared.operations.Done.{Done}
use Rattle.ref_tx.specs.Seen.{TxSeen}
use Rattle.ref_refs.specs.Commit.{alien, first_absent, alien_agent, alien_point, alien_ref, alien_tally, alien_value, changed_after, commit_refusal, commuted_codes, conflict, conflict_on, differs_at, early_refusal, first_invalid, full_book, has_ref, invalid, lacking, lacking_rule, needed_rule, or_fault, past_points, refused, refused_at, unknown_at, first_protected}
use Rattle.ref_refs.specs.Seen.{RefsSeen, changed_at}
use Rattle.ref_refs.specs.Watches.{touched_refs}
use Rattle.ref_refs.specs.declared.faults.Alien.TheVariants as aliens
use Rattle.ref_refs.specs.declared.faults.CommitFault.{CommitFault}
use Rattle.ref_refs.specs.declared.faults.CommitFault.TheVariants.{Foreign, Conflict, Refused, Invalid, PointLimit, BookFull, Memory, NoSuchFun}
use Rattle.ref_refs.specs.declared.faults.Conflict as told
use Rattle.ref_log.specs.Limits.{last_point}

-- A conflict of a transaction, where the refs had these last changes: on a ref that the transaction protects, with its read point, and the
-- ref's last change, which came after that.
pub record IsConflictOf (tx : TxSeen) (changed : ℕ → ℕ) (c : told.Conflict) : Type 0 where
  pub protected : is_protected tx.dones c.r ≡ true
  pub read : c.read_point ≡ tx.read_point
  pub later : tx.read_point < c.changed_at
  pub shown : c.changed_at ≡ changed c.r

-- Where a commit of a transaction returns a conflict, it is one of that transaction. Of other faults this says nothing.
abbrev pub ConflictFits : TxSeen → (ℕ → ℕ) → CommitFault → Type 0
ConflictFits tx changed (Conflict c) = IsConflictOf tx changed c
ConflictFits tx changed fault = Unit {0}

-- So it is by another account of the same last changes.
pub fits_too : (tx : TxSeen) (one other : ℕ → ℕ) (fault : CommitFault) → ((r : ℕ) → other r ≡ one r) → ConflictFits tx one fault → ConflictFits tx other fault
fits_too tx one other (Conflict c) same fits = record { protected = fits.protected; read = fits.read; later = fits.later; shown = fits.shown ∙ sym (same c.r) }
fits_too tx one other (Foreign what) same fits = tt
fits_too tx one other (Refused r cause) same fits = tt
fits_too tx one other (Invalid r) same fits = tt
fits_too tx one other PointLimit same fits = tt
fits_too tx one other BookFull same fits = tt
fits_too tx one other Memory same fits = tt
fits_too tx one other (NoSuchFun code) same fits = tt

-- ---- so it is of each fault of a commit

abbrev Fits : TxSeen → (ℕ → ℕ) → Option CommitFault → Type 0
Fits tx changed None = Unit {0}
Fits tx changed (Some fault) = ConflictFits tx changed fault

some-fits : (tx : TxSeen) (changed : ℕ → ℕ) (refusal : Option CommitFault) (fault : CommitFault) → refusal ≡ Some fault → Fits tx changed refusal → ConflictFits tx changed fault
some-fits tx changed refusal fault is fits = subst (Fits tx changed) is fits

or-fits : (tx : TxSeen) (changed : ℕ → ℕ) (first second : Option CommitFault) → Fits tx changed first → Fits tx changed second → Fits tx changed (or_fault first second)
or-fits tx changed None second a b = b
or-fits tx changed (Some fault) second a b = a

mapped-fits : {X : Type 0} (tx : TxSeen) (changed : ℕ → ℕ) (tell : X → CommitFault) (found : Option X) → ((x : X) → ConflictFits tx changed (tell x)) → Fits tx changed (option_map tell found)
mapped-fits tx changed tell None each = tt
mapped-fits tx changed tell (Some x) each = each x

if-fits : (tx : TxSeen) (changed : ℕ → ℕ) (b : Bool) (first second : Option CommitFault) → Fits tx changed first → Fits tx changed second → Fits tx changed (cond b first second)
if-fits tx changed true first second a b = a
if-fits tx changed false first second a b = b

found : (p : ℕ → Bool) (rs : List ℕ) (r : ℕ) → find p rs ≡ Some r → p r ≡ true
found p [] r is = absurd cc
found p (x ∷ xs) r is = by (p x) refl is (found p xs r)
  where
    by : (b : Bool) → p x ≡ b → cond b (Some x) (find p xs) ≡ Some r → (find p xs ≡ Some r → p r ≡ true) → p r ≡ true
    by true here same later = cc
    by false here same later = later same

conflict-fits : (store : RefsSeen) (tx : TxSeen) → Fits tx (changed_at store.lasts) (conflict store tx)
conflict-fits store tx = by (find (λ r. is_protected tx.dones r && changed_after store.lasts tx.read_point r) (range_with_len 0 (length store.values))) refl
  where
    by : (first : Option ℕ) → find (λ r. is_protected tx.dones r && changed_after store.lasts tx.read_point r) (range_with_len 0 (length store.values)) ≡ first → Fits tx (changed_at store.lasts) (option_map (conflict_on store.lasts tx.read_point) first)
    by None is = tt
    by (Some r) is =
        let parts = and_parts (is_protected tx.dones r) (changed_after store.lasts tx.read_point r) (found (λ r. is_protected tx.dones r && changed_after store.lasts tx.read_point r) (range_with_len 0 (length store.values)) r is) in
        record { protected = parts.0; read = refl; later = ltb-true tx.read_point (changed_at store.lasts r) parts.1; shown = refl }

alien-fits : (store : RefsSeen) (at agents : ℕ) (tx : TxSeen) (changed : ℕ → ℕ) → Fits tx changed (alien store at agents tx)
alien-fits store at agents tx changed =
    let refs = mapped-fits tx changed (λ (d : Done). Foreign (aliens.Ref d.r)) (find (λ (d : Done). not (has_ref store.values d.r)) tx.dones) (λ d. tt) in
    let sent = mapped-fits tx changed (λ (g : ℕ). Foreign (aliens.Agent g)) (first_absent agents tx.sends) (λ g. tt) in
    let tally = if-fits tx changed (fit_tally store.tally tx.dones) None (Some (Foreign aliens.Tally)) tt tt in
    let point = if-fits tx changed (nat_lt tx.read_point at) None (Some (Foreign (aliens.Point tx.read_point))) tt tt in
    or-fits tx changed (alien_ref store.values tx.dones) (or_fault (alien_agent agents tx.sends) (or_fault (alien_tally store.tally tx.dones) (alien_point at tx.read_point))) refs
    (or-fits tx changed (alien_agent agents tx.sends) (or_fault (alien_tally store.tally tx.dones) (alien_point at tx.read_point)) sent
    (or-fits tx changed (alien_tally store.tally tx.dones) (alien_point at tx.read_point) tally point))

lacking_rule-fits : (tx : TxSeen) (changed : ℕ → ℕ) (knows : ℕ → Bool) (guards : List Guard) (ds : List Done) → Fits tx changed (lacking_rule knows guards ds)
lacking_rule-fits tx changed knows guards [] = tt
lacking_rule-fits tx changed knows guards (d ∷ ds) = or-fits tx changed (unknown_at knows guards d) (lacking_rule knows guards ds) (mapped-fits tx changed NoSuchFun (unknown knows (needed_rule guards d)) (λ code. tt)) (lacking_rule-fits tx changed knows guards ds)

refused_at-fits : (tx : TxSeen) (changed : ℕ → ℕ) (r : ℕ) (placed : Option (Result Edn Cause)) (later : Edn → Option CommitFault) → ((v : Edn) → Fits tx changed (later v)) → Fits tx changed (refused_at r placed later)
refused_at-fits tx changed r (Some (Ok v)) later fits = fits v
refused_at-fits tx changed r (Some (Err cause)) later fits = tt
refused_at-fits tx changed r None later fits = tt

refused-fits : (tx : TxSeen) (changed : ℕ → ℕ) (means : Means) (ds : List Done) (values : List Edn) → Fits tx changed (refused means ds values)
refused-fits tx changed means [] values = tt
refused-fits tx changed means (d ∷ ds) values = refused_at-fits tx changed d.r (option_map (place means d.op) (slice_get values d.r)) (λ v. refused means ds (slice_set values d.r v)) (λ v. refused-fits tx changed means ds (slice_set values d.r v))

invalid-fits : (tx : TxSeen) (changed : ℕ → ℕ) (accepts : Accepts) (guards : List Guard) (ds : List Done) (after : Result (List Edn) AuditFault) → Fits tx changed (invalid accepts guards ds after)
invalid-fits tx changed accepts guards ds (Ok after) = mapped-fits tx changed Invalid (first_invalid accepts guards after (touched_refs ds)) (λ r. tt)
invalid-fits tx changed accepts guards ds (Err fault) = tt

pub refusal-fits : (tx : TxSeen) (means : Means) (accepts : Accepts) (knows : Known) (store : RefsSeen) (at agents most_added most_taken : ℕ) → Fits tx (changed_at store.lasts) (commit_refusal means accepts knows store at agents most_added most_taken tx)
refusal-fits tx means accepts knows store at agents most_added most_taken =
    let changed = changed_at store.lasts in
    let early = or-fits tx changed (alien store at agents tx) _ (alien-fits store at agents tx changed)
    (or-fits tx changed (lacking knows.funs tx.dones) _ (mapped-fits tx changed NoSuchFun (missing knows.funs (commuted_codes tx.dones)) (λ code. tt))
    (or-fits tx changed (lacking_rule knows.preds store.guards tx.dones) _ (lacking_rule-fits tx changed knows.preds store.guards tx.dones)
    (or-fits tx changed (conflict store tx) (alien_value store.values tx) (conflict-fits store tx)
    (mapped-fits tx changed (λ r. Foreign (aliens.Value r)) (first_protected store.values tx.dones (differs_at store.values tx.began)) (λ r. tt))))) in
    let after = after_dones means tx.dones at tx.dones (Ok store.values) in
    or-fits tx changed (early_refusal knows store at agents tx) _ early
    (or-fits tx changed (refused means tx.dones store.values) _ (refused-fits tx changed means tx.dones store.values)
    (or-fits tx changed (invalid accepts store.guards tx.dones after) _ (invalid-fits tx changed accepts store.guards tx.dones after)
    (or-fits tx changed (past_points at) (full_book most_added most_taken store.tally tx.dones) (if-fits tx changed (nat_lt last_point at) (Some PointLimit) None tt tt)
    (if-fits tx changed (nat_lt most_added (moved_by_dones Added store.tally tx.dones) || nat_lt most_taken (moved_by_dones Taken store.tally tx.dones)) (Some BookFull) None tt tt))))

-- A fault of a call other than out of memory is its reason.
pub told-fits : (tx : TxSeen) (changed : ℕ → ℕ) (early reason : Option CommitFault) (fault : CommitFault) → TellsFault Memory early reason fault → Fits tx changed reason → ConflictFits tx changed fault
told-fits tx changed early reason (Conflict c) tells fits = some-fits tx changed reason (Conflict c) (tells.0 (λ same. absurd cc)) fits
told-fits tx changed early reason (Foreign what) tells fits = tt
told-fits tx changed early reason (Refused r cause) tells fits = tt
told-fits tx changed early reason (Invalid r) tells fits = tt
told-fits tx changed early reason PointLimit tells fits = tt
told-fits tx changed early reason BookFull tells fits = tt
told-fits tx changed early reason Memory tells fits = tt
told-fits tx changed early reason (NoSuchFun code) tells fits = tt
