-- A transaction of this world has nothing foreign, and a table that serves it has what its commit needs.
use Rattle.std.proofs.Common.{◌≡◌, ◌≢◌, ℕ, zero, suc, cond, ◌+◌, ◌<◌, ◌≤◌, ◌^◌, ◌&&◌, ◌||◌, not, nat_lt, Bool, true, false, ◌⊎◌, inl, inr, List, [], ◌∷◌, ◌++◌, length, Option, None, Some, Result, Ok, Err, slice_get, slice_set, refl, sym, ap, subst, ◌∙◌, arith}
use Rattle.std.specs.List.{find, range_with_len}
use Rattle.std.specs.Option.{option_map}
use Rattle.std.specs.Ordering.{is_eq}
use Rattle.std.proofs.lemmas.Bool.{and_parts, cases_lt, cases_order, lt-ltb, ltb-false, ne_eqb}
use Rattle.std.proofs.lemmas.Cmp.{tied_itself}
use Rattle.ref_value.specs.Edn.{Edn}
use Rattle.ref_value.specs.OrderLaws.{edn_cmp_total}
use Rattle.ref_fun.specs.Calls.{Known}
use Rattle.ref_fun.specs.Meaning.{Means}
use Rattle.ref_fun.specs.Rule.{Accepts, is_known, unknown}
use Rattle.ref_fun.specs.declared.faults.Cause.{Cause}
use Rattle.ref_fun.specs.declared.rules.Rule.{Rule}
use Rattle.ref_log.specs.Guards.{are_known, rule_at}
use Rattle.ref_log.specs.Replay.{after_dones, is_ensure, is_protected, place}
use Rattle.ref_log.specs.Tally.{fit_tally, moved_by_dones}
use Rattle.ref_log.specs.declared.counting.Side.TheVariants.{Added, Taken}
use Rattle.ref_log.specs.declared.faults.AuditFault.{AuditFault}
use Rattle.ref_log.specs.declared.guards.Guard.{Guard}
use Rattle.ref_log.specs.declared.operations.Done.{Done}
use Rattle.ref_log.specs.declared.operations.Op.{Op}
use Rattle.ref_tx.specs.Inner.{AreAnswers, IsTx, after_ops, ops_on, value_after}
use Rattle.ref_tx.specs.Seen.{TxSeen}
use Rattle.ref_refs.specs.Commit.{alien, alien_value, changed_after, commit_refusal, conflict, conflict_on, differs, differs_at, early_refusal, first_invalid, first_protected, full_book, has_ref, invalid, lacking, lacking_rule, or_fault, past_points, refused, refused_at}
use Rattle.ref_refs.specs.Seen.{RefsSeen, changed_at}
use Rattle.ref_refs.specs.Watches.{touched_refs}
use Rattle.ref_refs.specs.declared.faults.Alien.TheVariants as aliens
use Rattle.ref_refs.specs.declared.faults.CommitFault.{CommitFault}
use Rattle.ref_refs.specs.declared.faults.CommitFault.TheVariants.{BookFull, Conflict, Foreign, Invalid, Memory, NoSuchFun, PointLimit, Refused}
use Rattle.ref_world.specs.World.{room}
use Rattle.ref_play.proofs.Receivers.{none_later}
use Rattle.ref_play.specs.Present.{Present}
use Rattle.ref_play.specs.Laws.{IsNative}
use Rattle.ref_play.specs.Runs.{IsOpen, KnowsTally}
use Rattle.ref_play.proofs.Placed.{get-below}

-- ---- what is never told

abbrev IsNativeOr : Option CommitFault → Type 0
IsNativeOr None = Unit {0}
IsNativeOr (Some fault) = IsNative fault

native_or : (first later : Option CommitFault) → IsNativeOr first → IsNativeOr later → IsNativeOr (or_fault first later)
native_or None later a b = b
native_or (Some fault) later a b = a

native_none : (first : Option CommitFault) → first ≡ None → IsNativeOr first
native_none first none = subst IsNativeOr (sym none) tt

native_refused_at : (r : ℕ) (there : Option (Result Edn Cause)) (later : Edn → Option CommitFault) → ((v : Edn) → IsNativeOr (later v)) → IsNativeOr (refused_at r there later)
native_refused_at r (Some (Ok v)) later each = each v
native_refused_at r (Some (Err cause)) later each = tt
native_refused_at r None later each = tt

native_refused : (means : Means) (ds : List Done) (values : List Edn) → IsNativeOr (refused means ds values)
native_refused means [] values = tt
native_refused means (d ∷ ds) values = native_refused_at d.r (option_map (place means d.op) (slice_get values d.r)) (λ v. refused means ds (slice_set values d.r v)) (λ v. native_refused means ds (slice_set values d.r v))

native_invalid_map : (found : Option ℕ) → IsNativeOr (option_map Invalid found)
native_invalid_map None = tt
native_invalid_map (Some r) = tt

native_invalid : (accepts : Accepts) (guards : List Guard) (ds : List Done) (after : Result (List Edn) AuditFault) → IsNativeOr (invalid accepts guards ds after)
native_invalid accepts guards ds (Ok after) = native_invalid_map (first_invalid accepts guards after (touched_refs ds))
native_invalid accepts guards ds (Err fault) = tt

native_past : (b : Bool) → IsNativeOr (cond b (Some PointLimit) None)
native_past true = tt
native_past false = tt

native_full : (b : Bool) → IsNativeOr (cond b (Some BookFull) None)
native_full true = tt
native_full false = tt

-- ---- what is never so

no_place : (means : Means) (ops : List Op) (v : Edn) → after_ops means ops None ≡ Some v → ⊥
no_place means [] v is = cc
no_place means (op ∷ ops) v is = no_place means ops v is

there_by : (means : Means) (ops : List Op) (there : Option Edn) (v : Edn) → after_ops means ops there ≡ Some v → (w : Edn) × (there ≡ Some w)
there_by means ops (Some w) v is = (w, refl)
there_by means ops None v is = absurd (no_place means ops v is)

-- the ref of an answered operation was there at the beginning
pub began_at : (means : Means) (began : List Edn) (ds : List Done) (r : ℕ) (v : Edn) → value_after means began ds r ≡ Some v → r < length began
began_at means began ds r v is =
    let there = there_by means (ops_on r ds) (slice_get began r) v is in
    get-below began r there.0 there.1

refs_here : (means : Means) (began values : List Edn) (former ds : List Done) → AreAnswers means began former ds → length began ≤ length values → find (λ d. not (has_ref values d.r)) ds ≡ None
refs_here means began values former [] are count = refl
refs_here means began values former (d ∷ ds) are count =
    let below = began_at means began (former ++ d ∷ []) d.r d.answer are.0 in
    rw (lt-ltb d.r (length values) (omega (arith, below, count))) (refs_here means began values (former ++ d ∷ []) ds are.1 count)

fits_unknown : (means : Means) (began : List Edn) (former ds : List Done) (t : ℕ) → AreAnswers means began former ds → length began ≤ t → fit_tally (Some t) ds ≡ true
fits_unknown means began former [] t are count = refl
fits_unknown means began former (d ∷ ds) t are count =
    let below = began_at means began (former ++ d ∷ []) d.r d.answer are.0 in
    rw (ne_eqb t d.r (λ same. absurd (omega (arith, same, below, count)))) (fits_unknown means began (former ++ d ∷ []) ds t are.1 count)

fits_by : (means : Means) (tx : TxSeen) (tally : Option ℕ) → IsTx means tx.began tx.dones tx.tally → KnowsTally tx tally → fit_tally tally tx.dones ≡ true
fits_by means tx tally is (inl same) = subst (λ t. fit_tally t tx.dones ≡ true) same is.tallied
fits_by means tx tally is (inr since) = rw since.2 (fits_unknown means tx.began [] tx.dones since.0 is.answered since.3)

known_if : (b : Bool) (code : ℕ) → b ≡ true → cond b None (Some code) ≡ None
known_if true code is = refl
known_if false code is = absurd cc

known_one : (knows : ℕ → Bool) (rule : Option Rule) → is_known knows rule ≡ true → unknown knows rule ≡ None
known_one knows None is = refl
known_one knows (Some rule) is = known_if (knows rule.code) rule.code is

known_at : (knows : ℕ → Bool) (guards : List Guard) (r : ℕ) → are_known knows guards ≡ true → unknown knows (rule_at guards r) ≡ None
known_at knows [] r all = refl
known_at knows (g ∷ gs) zero all = known_one knows g.rule (and_parts (is_known knows g.rule) (are_known knows gs) all).0
known_at knows (g ∷ gs) (suc r) all = known_at knows gs r (and_parts (is_known knows g.rule) (are_known knows gs) all).1

known_needed : (knows : ℕ → Bool) (guards : List Guard) (d : Done) (b : Bool) → are_known knows guards ≡ true → unknown knows (cond b None (rule_at guards d.r)) ≡ None
known_needed knows guards d true all = refl
known_needed knows guards d false all = known_at knows guards d.r all

rules_known : (knows : ℕ → Bool) (guards : List Guard) (ds : List Done) → are_known knows guards ≡ true → lacking_rule knows guards ds ≡ None
rules_known knows guards [] all = refl
rules_known knows guards (d ∷ ds) all = rw (known_needed knows guards d (is_ensure d.op) all) (rules_known knows guards ds all)

-- ---- protected refs

pub mapped_none : {X Y : Type 0} (f : X → Y) (o : Option X) → option_map f o ≡ None → o ≡ None
mapped_none f None is = refl
mapped_none f (Some x) is = absurd cc

pub none_parts : (b : Bool) (x : ℕ) (later : Option ℕ) → cond b (Some x) later ≡ None → (b ≡ false) × (later ≡ None)
none_parts true x later e = absurd cc
none_parts false x later e = (refl, e)

find_weaker : (p q : ℕ → Bool) (xs : List ℕ) → ((x : ℕ) → p x ≡ false → q x ≡ false) → find p xs ≡ None → find q xs ≡ None
find_weaker p q [] weaker none = refl
find_weaker p q (x ∷ xs) weaker none =
    let parts = none_parts (p x) x (find p xs) none in
    rw (weaker x parts.0) (find_weaker p q xs weaker parts.1)

pub differs_itself : (v : Option Edn) → differs v v ≡ false
differs_itself None = refl
differs_itself (Some v) = ap (λ b. not b) (ap is_eq (tied_itself edn_cmp_total v))

-- A ref in no conflict has the value of the beginning.
same_value : (means : Means) (now : Present) (tx : TxSeen) (r : ℕ) (b : Bool) → IsOpen means now tx → is_protected tx.dones r ≡ b → (b && changed_after now.refs.lasts tx.read_point r) ≡ false → (b && differs_at now.refs.values tx.began r) ≡ false
same_value means now tx r false is protected none = refl
same_value means now tx r true is protected none =
    let same = is.same r (ltb-false tx.read_point (changed_at now.refs.lasts r) none) in
    ap (λ v. differs v (slice_get now.refs.values r)) same ∙ differs_itself (slice_get now.refs.values r)

pub values_agree : (means : Means) (now : Present) (tx : TxSeen) → IsOpen means now tx → conflict now.refs tx ≡ None → alien_value now.refs.values tx ≡ None
values_agree means now tx is none =
    ap (option_map (λ r. Foreign (aliens.Value r)))
    (find_weaker (λ r. is_protected tx.dones r && changed_after now.refs.lasts tx.read_point r) (λ r. is_protected tx.dones r && differs_at now.refs.values tx.began r) (range_with_len 0 (length now.refs.values))
    (λ r. same_value means now tx r (is_protected tx.dones r) is refl)
    (mapped_none (conflict_on now.refs.lasts tx.read_point) (first_protected now.refs.values tx.dones (changed_after now.refs.lasts tx.read_point)) none))

native_protected : (means : Means) (now : Present) (tx : TxSeen) (first : Option ℕ) → IsOpen means now tx → first_protected now.refs.values tx.dones (changed_after now.refs.lasts tx.read_point) ≡ first → IsNativeOr (or_fault (option_map (conflict_on now.refs.lasts tx.read_point) first) (alien_value now.refs.values tx))
native_protected means now tx None is found = native_none (alien_value now.refs.values tx) (values_agree means now tx is (ap (option_map (conflict_on now.refs.lasts tx.read_point)) found))
native_protected means now tx (Some r) is found = tt

-- ---- all together

aliens_none : (means : Means) (now : Present) (tx : TxSeen) → IsOpen means now tx → alien now.refs (now.point + 1) (length now.agents.agents) tx ≡ None
aliens_none means now tx is =
    let refs = ap (option_map (λ (d : Done). Foreign (aliens.Ref d.r))) (refs_here means tx.began now.refs.values [] tx.dones is.is.answered is.count) in
    let sent = ap (option_map (λ g. Foreign (aliens.Agent g))) (none_later tx.agents (length now.agents.agents) tx.sends is.agents is.sends) in
    let tally = ap (λ b. cond b None (Some (Foreign aliens.Tally))) (fits_by means tx now.refs.tally is.is is.tally) in
    let point = ap (λ b. cond b None (Some (Foreign (aliens.Point tx.read_point)))) (lt-ltb tx.read_point (now.point + 1) (omega (arith, is.point))) in
    rw (refs, sent, tally, point) refl

pub native_refusal : (means : Means) (accepts : Accepts) (knows : Known) (now : Present) (tx : TxSeen) → IsOpen means now tx → are_known knows.preds now.refs.guards ≡ true → lacking knows.funs tx.dones ≡ None
    → IsNativeOr (commit_refusal means accepts knows now.refs (now.point + 1) (length now.agents.agents) (room now.books.added) (room now.books.taken) tx)
native_refusal means accepts knows now tx is preds funs =
    let at = now.point + 1 in
    let full = full_book (room now.books.added) (room now.books.taken) now.refs.tally tx.dones in
    let late = or_fault (past_points at) full in
    let made = invalid accepts now.refs.guards tx.dones (after_dones means tx.dones at tx.dones (Ok now.refs.values)) in
    let rest = native_or (refused means tx.dones now.refs.values) (or_fault made late) (native_refused means tx.dones now.refs.values)
    (native_or made late (native_invalid accepts now.refs.guards tx.dones (after_dones means tx.dones at tx.dones (Ok now.refs.values)))
    (native_or (past_points at) full (native_past (nat_lt (2 ^ 62) at))
    (native_full (nat_lt (room now.books.added) (moved_by_dones Added now.refs.tally tx.dones) || nat_lt (room now.books.taken) (moved_by_dones Taken now.refs.tally tx.dones))))) in
    let values = native_protected means now tx (first_protected now.refs.values tx.dones (changed_after now.refs.lasts tx.read_point)) is refl in
    let first = native_or (alien now.refs at (length now.agents.agents) tx) (or_fault (lacking knows.funs tx.dones) (or_fault (lacking_rule knows.preds now.refs.guards tx.dones) (or_fault (conflict now.refs tx) (alien_value now.refs.values tx))))
    (native_none (alien now.refs at (length now.agents.agents) tx) (aliens_none means now tx is))
    (native_or (lacking knows.funs tx.dones) (or_fault (lacking_rule knows.preds now.refs.guards tx.dones) (or_fault (conflict now.refs tx) (alien_value now.refs.values tx))) (native_none (lacking knows.funs tx.dones) funs)
    (native_or (lacking_rule knows.preds now.refs.guards tx.dones) (or_fault (conflict now.refs tx) (alien_value now.refs.values tx)) (native_none (lacking_rule knows.preds now.refs.guards tx.dones) (rules_known knows.preds now.refs.guards tx.dones preds)) values)) in
    native_or (early_refusal knows now.refs at (length now.agents.agents) tx) (or_fault (refused means tx.dones now.refs.values) (or_fault made late)) first rest

by_reason : (reason : Option CommitFault) (fault : CommitFault) → IsNativeOr reason → reason ≡ Some fault → IsNative fault
by_reason reason fault native is = subst IsNativeOr is native

pub native_told : (reason : Option CommitFault) (fault : CommitFault) → IsNativeOr reason → (fault ≢ Memory → reason ≡ Some fault) → IsNative fault
native_told reason (Foreign alien) native told = by_reason reason (Foreign alien) native (told (λ no. cc))
native_told reason (NoSuchFun code) native told = by_reason reason (NoSuchFun code) native (told (λ no. cc))
native_told reason (Conflict c) native told = tt
native_told reason (Refused r cause) native told = tt
native_told reason (Invalid r) native told = tt
native_told reason PointLimit native told = tt
native_told reason BookFull native told = tt
native_told reason Memory native told = tt

-- ---- a commit that is made: what it protects has the value that it began with

pub range_none : (p : ℕ → Bool) (n from r : ℕ) → find p (range_with_len from n) ≡ None → from ≤ r → r < from + n → p r ≡ false
range_none p zero from r none after below = absurd (omega (arith, after, below))
range_none p (suc n) from r none after below =
    let parts = none_parts (p from) from (find p (range_with_len (from + 1) n)) none in
    at parts (cases_order from r) (λ l h. range_none p n (from + 1) r parts.1 l h) where
      at : (p from ≡ false) × (find p (range_with_len (from + 1) n) ≡ None) → (from ≡ r) ⊎ ((from < r) ⊎ (r < from)) → (from + 1 ≤ r → r < from + 1 + n → p r ≡ false) → p r ≡ false
      at parts (inl same) later = ap p (sym same) ∙ parts.0
      at parts (inr (inl less)) later = later (omega (arith, less)) (omega (arith, below))
      at parts (inr (inr more)) later = absurd (omega (arith, after, more))

past : (values : List Edn) (r : ℕ) → length values ≤ r → slice_get values r ≡ None
past [] r after = refl
past (x ∷ xs) zero after = absurd (omega (arith, after))
past (x ∷ xs) (suc r) after = past xs r (omega (arith, after))

pub changed_by_protected : (b c : Bool) → b ≡ true → (b && c) ≡ false → c ≡ false
changed_by_protected true c is none = none
changed_by_protected false c is none = absurd cc

pub agrees_first : (means : Means) (now : Present) (tx : TxSeen) → IsOpen means now tx → conflict now.refs tx ≡ None → (r : ℕ) → is_protected tx.dones r ≡ true → slice_get now.refs.values r ≡ slice_get tx.began r
agrees_first means now tx is none r protected = by (cases_lt r (length now.refs.values)) where
  by : (r < length now.refs.values) ⊎ (length now.refs.values ≤ r) → slice_get now.refs.values r ≡ slice_get tx.began r
  by (inl below) =
      let changed = range_none (λ q. is_protected tx.dones q && changed_after now.refs.lasts tx.read_point q) (length now.refs.values) 0 r
      (mapped_none (conflict_on now.refs.lasts tx.read_point) (first_protected now.refs.values tx.dones (changed_after now.refs.lasts tx.read_point)) none) (omega arith) (omega (arith, below)) in
      let before = ltb-false tx.read_point (changed_at now.refs.lasts r) (changed_by_protected (is_protected tx.dones r) (changed_after now.refs.lasts tx.read_point r) protected changed) in
      sym (is.same r before)
  by (inr after) = past now.refs.values r after ∙ sym (past tx.began r (omega (arith, after, is.count)))

pub none_of : (first later : Option CommitFault) → or_fault first later ≡ None → (first ≡ None) × (later ≡ None)
none_of None later none = (refl, none)
none_of (Some fault) later none = absurd cc

pub no_conflict : (means : Means) (accepts : Accepts) (knows : Known) (refs : RefsSeen) (at agents most_added most_taken : ℕ) (tx : TxSeen) → commit_refusal means accepts knows refs at agents most_added most_taken tx ≡ None → conflict refs tx ≡ None
no_conflict means accepts knows refs at agents most_added most_taken tx none =
    let early = none_of (early_refusal knows refs at agents tx) _ none in
    let a = none_of (alien refs at agents tx) _ early.0 in
    let b = none_of (lacking knows.funs tx.dones) _ a.1 in
    let c = none_of (lacking_rule knows.preds refs.guards tx.dones) _ b.1 in
    (none_of (conflict refs tx) (alien_value refs.values tx) c.1).0

pub not_past : (at : ℕ) (b : Bool) → nat_lt (2 ^ 62) at ≡ b → cond b (Some PointLimit) None ≡ None → at ≤ 2 ^ 62
not_past at true is none = absurd cc
not_past at false is none = ltb-false (2 ^ 62) at is

pub within_points : (means : Means) (accepts : Accepts) (knows : Known) (refs : RefsSeen) (at agents most_added most_taken : ℕ) (tx : TxSeen) → commit_refusal means accepts knows refs at agents most_added most_taken tx ≡ None → at ≤ 2 ^ 62
within_points means accepts knows refs at agents most_added most_taken tx none =
    let a = none_of (early_refusal knows refs at agents tx) _ none in
    let b = none_of (refused means tx.dones refs.values) _ a.1 in
    let c = none_of (invalid accepts refs.guards tx.dones (after_dones means tx.dones at tx.dones (Ok refs.values))) _ b.1 in
    let d = none_of (past_points at) (full_book most_added most_taken refs.tally tx.dones) c.1 in
    not_past at (nat_lt (2 ^ 62) at) refl d.0
