-- What a commit that is refused says, in plain words.
use Rattle.std.proofs.Common.{Equal, Greater, Less, Ordering, ◌≡◌, ◌≢◌, ℕ, zero, suc, cond, ◌+◌, ◌<◌, ◌≤◌, ◌^◌, ◌==◌, ◌&&◌, ◌||◌, not, nat_lt, Bool, true, false, ◌⊎◌, inl, inr, List, [], ◌∷◌, ◌++◌, length, Option, None, Some, Result, Ok, Err, slice_get, slice_set, refl, sym, ap, subst, ◌∙◌, arith}
use Rattle.std.specs.List.{AllByRecursion, find, list_all, range_with_len}
use Rattle.std.specs.BTreeSet.{insert_key}
use Rattle.std.specs.Cmp.{nat_cmp_is}
use Rattle.std.specs.Option.{option_map}
use Rattle.std.specs.Ordering.{MatchOrdering, match_ordering, nat_cmp}
use Rattle.std.proofs.lemmas.Bool.{and_from, and_parts, cases_order, eq-eqb, eqb-true, false_from_ne_true, le-ltb, lt-ltb, ltb-false, ltb-true, not-false, not-true, or_from, or_parts, true_from_ne_false}
use Rattle.std.proofs.lemmas.Option.{get_or_from_slice_get, unwrap_or-slice_get}
use Rattle.ref_value.specs.Edn.{Edn}
use Rattle.ref_fun.specs.Calls.{Known}
use Rattle.ref_fun.specs.Meaning.{Means}
use Rattle.ref_fun.specs.Rule.{Accepts, unknown}
use Rattle.ref_fun.specs.declared.faults.Cause.{Cause}
use Rattle.ref_fun.specs.declared.rules.Rule.{Rule}
use Rattle.ref_log.specs.Guards.{is_accepted_at, passes_if_here, rule_at}
use Rattle.ref_log.specs.Replay.{after_dones, is_ensure, is_protected, is_touched, missing, place}
use Rattle.ref_log.specs.Tally.{fit_tally, fits_tally, is_tally, moved_by_dones}
use Rattle.ref_log.specs.declared.counting.Side.TheVariants.{Added, Taken}
use Rattle.ref_log.specs.declared.guards.Guard.{Guard}
use Rattle.ref_log.specs.declared.operations.Done.{Done}
use Rattle.ref_log.specs.declared.operations.Op.{Op}
use Rattle.ref_log.specs.declared.operations.Op.TheVariants.{Set, Alter, Commute, Ensure}
use Rattle.ref_log.specs.declared.sends.Sent.{Sent}
use Rattle.ref_tx.specs.Inner.{IsTx}
use Rattle.ref_tx.specs.Seen.{TxSeen}
use Rattle.ref_refs.specs.Commit.{alien, alien_agent, alien_point, alien_ref, alien_tally, alien_value, changed_after, commit_refusal, commuted_code, commuted_codes, conflict, conflict_on, differs, differs_at, early_refusal, first_absent, first_invalid, first_protected, has_ref, invalid, lacking, lacking_rule, full_book, or_fault, past_points, refused, refused_at, unknown_at}
use Rattle.ref_refs.specs.Seen.{RefsSeen, changed_at}
use Rattle.ref_refs.specs.Watches.{touched_from, touched_refs}
use Rattle.ref_refs.specs.declared.faults.Alien.TheVariants as aliens
use Rattle.ref_refs.specs.declared.faults.CommitFault.{CommitFault}
use Rattle.ref_refs.specs.declared.faults.CommitFault.TheVariants.{BookFull, Conflict, Foreign, Invalid, Memory, NoSuchFun, PointLimit, Refused}
use Rattle.ref_refs.specs.declared.faults.Conflict as told
use Rattle.ref_play.specs.Plain.{AnyByRecursion, AreRising, Changes, CommutesBy, Counts, FirstWithout, HasAgents, HasCommuted, HasRefs, HasRule, IsChanged, IsCurrent, IsHere, IsKnown, IsMade, IsProtected, IsSmallestInvalid, IsSmallestOther, KnowsRuleOf, LacksFun, Leads, NamesSmallest, OnlyCounts, RefusalsSayWhy, RefusedOn, RefusesValue, RuledBy, SumsTo, Why, all_agents_of}
use Rattle.ref_play.proofs.Native.{differs_itself, none_of, not_past}
use Rattle.ref_play.proofs.PlainBooks.{by_full, full_by, sum_is, sums_to}
use Rattle.ref_play.proofs.PlainLists.{all_map, any_each, any_pass, each_any, some_passes, first_found, found_first}
use Rattle.ref_play.proofs.PlainCommits.{IsAcceptedAt, accepted_by, accepts_by, by_accepted, by_changes, by_counts, by_funs, by_last, by_preds, by_read, by_refs, by_sends, by_tally, by_unchanged, by_values, by_within, changes_by, counts_by, each_touched, found_all, funs_by, has_rule, here_by, insert_from, is_protected_by, last_by, lead_on, leads_after, leads_refused, makes_place, none_or, place_makes, pred_by, preds_by, protected_is, read_by, refs_by, rule_is, same_by, sends_by, tally_by, there, touched_each, unchanged_by, values_by}

-- ---- the first of faults

pub some_or : (first later : Option CommitFault) (fault : CommitFault) → or_fault first later ≡ Some fault → (first ≡ Some fault) ⊎ ((first ≡ None) × (later ≡ Some fault))
some_or None later fault is = inr (refl, is)
some_or (Some f) later fault is = inl is

pub or_some : (first later : Option CommitFault) (fault : CommitFault) → first ≡ Some fault → or_fault first later ≡ Some fault
or_some first later fault is = ap (λ o. or_fault o later) is

pub or_later : (first later : Option CommitFault) (fault : CommitFault) → first ≡ None → later ≡ Some fault → or_fault first later ≡ Some fault
or_later first later fault none is = ap (λ o. or_fault o later) none ∙ is

map_some : {X : Type 0} (f : X → CommitFault) (o : Option X) (fault : CommitFault) → option_map f o ≡ Some fault → (x : X) × (o ≡ Some x) × (f x ≡ fault)
map_some f None fault is = absurd cc
map_some f (Some x) fault is = (x, refl, cc)

if_some : (b : Bool) (f fault : CommitFault) → cond b None (Some f) ≡ Some fault → (b ≡ false) × (f ≡ fault)
if_some true f fault is = absurd cc
if_some false f fault is = (refl, cc)

-- some element fails where not all pass
some_fails : {X : Type 0} (p : X → Bool) (P : X → Type 0) → ((x : X) → p x ≡ false → P x) → (xs : List X) → list_all p xs ≡ false → AnyByRecursion P xs
some_fails p P on [] any = absurd cc
some_fails p P on (x ∷ xs) any = by (p x) refl any (some_fails p P on xs) where
  by : (b : Bool) → p x ≡ b → (b && list_all p xs) ≡ false → (list_all p xs ≡ false → AnyByRecursion P xs) → AnyByRecursion P (x ∷ xs)
  by true passes any later = inr (later any)
  by false fails any later = inl (on x fails)

any_fails : {X : Type 0} (p : X → Bool) (P : X → Type 0) → ((x : X) → P x → p x ≡ false) → (xs : List X) → AnyByRecursion P xs → list_all p xs ≡ false
any_fails p P on [] any = absurd any
any_fails p P on (x ∷ xs) (inl here) = ap (λ b. b && list_all p xs) (on x here)
any_fails p P on (x ∷ xs) (inr later) = by (p x) (any_fails p P on xs later) where
  by : (b : Bool) → list_all p xs ≡ false → (b && list_all p xs) ≡ false
  by true none = none
  by false none = refl

-- ---- what isn't here

pub ref_by : (values : List Edn) (ds : List Done) (fault : CommitFault) → alien_ref values ds ≡ Some fault → (r : ℕ) × (Foreign (aliens.Ref r) ≡ fault) × FirstWithout (λ (d : Done). d.r < length values) (λ (d : Done). d.r ≡ r) ds
ref_by values ds fault is =
    let one = map_some (λ (d : Done). Foreign (aliens.Ref d.r)) (find (λ (d : Done). not (has_ref values d.r)) ds) fault is in
    (one.0.r, one.2, first_found (λ (d : Done). has_ref values d.r) (λ (d : Done). d.r < length values) (λ (d : Done). d.r ≡ one.0.r) (λ d so. ltb-true d.r (length values) so) (λ d so. lt-ltb d.r (length values) so) ds one.0 one.1 refl)

pub by_ref : (values : List Edn) (ds : List Done) (r : ℕ) → FirstWithout (λ (d : Done). d.r < length values) (λ (d : Done). d.r ≡ r) ds → alien_ref values ds ≡ Some (Foreign (aliens.Ref r))
by_ref values ds r first =
    let one = found_first (λ (d : Done). has_ref values d.r) (λ (d : Done). d.r < length values) (λ (d : Done). d.r ≡ r) (λ d so. ltb-true d.r (length values) so) (λ d so. lt-ltb d.r (length values) so) ds first in
    ap (option_map (λ (d : Done). Foreign (aliens.Ref d.r))) one.1 ∙ ap (λ n. Some (Foreign (aliens.Ref n))) one.2

pub agent_by : (agents : ℕ) (ss : List Sent) (fault : CommitFault) → alien_agent agents ss ≡ Some fault → (g : ℕ) × (Foreign (aliens.Agent g) ≡ fault) × FirstWithout (λ h. h < agents) (λ h. h ≡ g) (all_agents_of ss)
agent_by agents ss fault is =
    let one = map_some (λ g. Foreign (aliens.Agent g)) (first_absent agents ss) fault is in
    (one.0, one.2, first_found (λ h. nat_lt h agents) (λ h. h < agents) (λ h. h ≡ one.0) (λ h so. ltb-true h agents so) (λ h so. lt-ltb h agents so) (all_agents_of ss) one.0 (sym (found_all agents ss) ∙ one.1) refl)

pub by_agent : (agents : ℕ) (ss : List Sent) (g : ℕ) → FirstWithout (λ h. h < agents) (λ h. h ≡ g) (all_agents_of ss) → alien_agent agents ss ≡ Some (Foreign (aliens.Agent g))
by_agent agents ss g first =
    let one = found_first (λ h. nat_lt h agents) (λ h. h < agents) (λ h. h ≡ g) (λ h so. ltb-true h agents so) (λ h so. lt-ltb h agents so) (all_agents_of ss) first in
    ap (option_map (λ h. Foreign (aliens.Agent h))) (found_all agents ss ∙ one.1) ∙ ap (λ n. Some (Foreign (aliens.Agent n))) one.2

-- an operation on the tally that doesn't count
Miscounts : Option ℕ → Done → Type 0
Miscounts tally d = (tally ≡ Some d.r) × (Counts d.op → ⊥)

miscount : (tally : Option ℕ) (d : Done) → (not (is_tally tally d.r) || fits_tally d.op) ≡ false → Miscounts tally d
unfolding Miscounts
miscount None d is = absurd cc
miscount (Some t) d is =
    let parts = or_parts (not (t == d.r)) (fits_tally d.op) is in
    (ap Some (eqb-true t d.r (not-false (t == d.r) parts.0)), λ counts. let fits = by_counts d.op counts in let no = parts.1 in absurd cc)

miscounted : (tally : Option ℕ) (d : Done) → Miscounts tally d → (not (is_tally tally d.r) || fits_tally d.op) ≡ false
unfolding Miscounts
miscounted None d is =
    let no = is.0 in
    absurd cc
miscounted (Some t) d is =
    let same : t ≡ d.r = some_same is.0 in
    or_from (not (t == d.r)) (fits_tally d.op) (ap not (eq-eqb t d.r same)) (false_from_ne_true (fits_tally d.op) (λ fits. is.1 (counts_by d.op fits)))
  where
    some_same : {n m : ℕ} → Some n ≡ Some m → n ≡ m
    some_same e = cc

pub miscount_by : (tally : Option ℕ) (ds : List Done) (fault : CommitFault) → alien_tally tally ds ≡ Some fault → (Foreign aliens.Tally ≡ fault) × AnyByRecursion (λ (d : Done). (tally ≡ Some d.r) × (Counts d.op → ⊥)) ds
unfolding Miscounts
miscount_by tally ds fault is =
    let one = if_some (fit_tally tally ds) (Foreign aliens.Tally) fault is in
    (one.1, some_fails (λ (d : Done). not (is_tally tally d.r) || fits_tally d.op) (λ (d : Done). (tally ≡ Some d.r) × (Counts d.op → ⊥)) (miscount tally) ds one.0)

pub by_miscount : (tally : Option ℕ) (ds : List Done) → AnyByRecursion (λ (d : Done). (tally ≡ Some d.r) × (Counts d.op → ⊥)) ds → alien_tally tally ds ≡ Some (Foreign aliens.Tally)
unfolding Miscounts
by_miscount tally ds any =
    ap (λ b. cond b None (Some (Foreign aliens.Tally))) (any_fails (λ (d : Done). not (is_tally tally d.r) || fits_tally d.op) (λ (d : Done). (tally ≡ Some d.r) × (Counts d.op → ⊥)) (miscounted tally) ds any)

pub point_by : (at point : ℕ) (fault : CommitFault) → alien_point at point ≡ Some fault → (Foreign (aliens.Point point) ≡ fault) × (at ≤ point)
point_by at point fault is =
    let one = if_some (nat_lt point at) (Foreign (aliens.Point point)) fault is in
    (one.1, ltb-false point at one.0)

pub by_point : (at point : ℕ) → at ≤ point → alien_point at point ≡ Some (Foreign (aliens.Point point))
by_point at point after = ap (λ b. cond b None (Some (Foreign (aliens.Point point)))) (le-ltb point at after)

-- ---- the table

-- the first `commute` whose function isn't known
FirstCommute : (ℕ → Bool) → ℕ → List Done → Type 0
FirstCommute knows code ds = FirstWithout (λ (d : Done). HasCommuted knows d.op) (λ (d : Done). CommutesBy code d.op) ds

fun_first : (knows : ℕ → Bool) (ds : List Done) (code : ℕ) → missing knows (commuted_codes ds) ≡ Some code → FirstCommute knows code ds
unfolding FirstCommute
fun_first knows [] code is = absurd cc
fun_first knows (d ∷ ds) code is = by d.op is (fun_first knows ds code) where
  one : (c : ℕ) → (b : Bool) → knows c ≡ b → cond (not b) (Some c) (missing knows (commuted_codes ds)) ≡ Some code → (missing knows (commuted_codes ds) ≡ Some code → FirstCommute knows code ds)
      → (((knows c ≡ true) → ⊥) × (c ≡ code)) ⊎ ((knows c ≡ true) × FirstCommute knows code ds)
  one c true has is later = inr (has, later is)
  one c false lacks is later = inl ((λ has. absurd cc), cc)

  by : (op : Op) → missing knows (commuted_code op ++ commuted_codes ds) ≡ Some code → (missing knows (commuted_codes ds) ≡ Some code → FirstCommute knows code ds)
      → ((HasCommuted knows op → ⊥) × CommutesBy code op) ⊎ (HasCommuted knows op × FirstCommute knows code ds)
  by (Set w) is later = inr (tt, later is)
  by (Alter c args) is later = inr (tt, later is)
  by (Commute c args) is later = one c (knows c) refl is later
  by Ensure is later = inr (tt, later is)

first_fun : (knows : ℕ → Bool) (ds : List Done) (code : ℕ) → FirstCommute knows code ds → missing knows (commuted_codes ds) ≡ Some code
unfolding FirstCommute
first_fun knows [] code first = absurd first
first_fun knows (d ∷ ds) code first = by d.op first (first_fun knows ds code) where
  by : (op : Op) → ((HasCommuted knows op → ⊥) × CommutesBy code op) ⊎ (HasCommuted knows op × FirstCommute knows code ds) → (FirstCommute knows code ds → missing knows (commuted_codes ds) ≡ Some code)
      → missing knows (commuted_code op ++ commuted_codes ds) ≡ Some code
  by (Set w) (inl here) later = absurd here.1
  by (Set w) (inr there) later = later there.1
  by (Alter c args) (inl here) later = absurd here.1
  by (Alter c args) (inr there) later = later there.1
  by (Commute c args) (inl here) later = ap (λ b. cond (not b) (Some c) (missing knows (commuted_codes ds))) (false_from_ne_true (knows c) here.0) ∙ ap Some here.1
  by (Commute c args) (inr there) later = ap (λ b. cond (not b) (Some c) (missing knows (commuted_codes ds))) there.0 ∙ later there.1
  by Ensure (inl here) later = absurd here.1
  by Ensure (inr there) later = later there.1

pub fun_by : (knows : Known) (tx : TxSeen) (fault : CommitFault) → lacking knows.funs tx.dones ≡ Some fault → (code : ℕ) × (NoSuchFun code ≡ fault) × LacksFun knows tx code
unfolding FirstCommute
fun_by knows tx fault is =
    let one = map_some NoSuchFun (missing knows.funs (commuted_codes tx.dones)) fault is in
    (one.0, one.2, fun_first knows.funs tx.dones one.0 one.1)

pub by_fun : (knows : Known) (tx : TxSeen) (code : ℕ) → LacksFun knows tx code → lacking knows.funs tx.dones ≡ Some (NoSuchFun code)
unfolding FirstCommute
by_fun knows tx code lacks = ap (option_map NoSuchFun) (first_fun knows.funs tx.dones code lacks)

module _ (knows : ℕ → Bool) (guards : List Guard) where
  -- the rule of an operation's ref has a predicate of this code that isn't known
  Unruled : Done → ℕ → Type 0
  Unruled d code = ((Changes d.op → KnowsRuleOf knows guards d.r) → ⊥) × RuledBy guards code d.r

  unruled : (d : Done) (fault : CommitFault) → unknown_at knows guards d ≡ Some fault → (code : ℕ) × (NoSuchFun code ≡ fault) × Unruled d code
  unfolding Unruled
  unruled d fault is = by (is_ensure d.op) refl (rule_at guards d.r) refl is where
    known : (b : Bool) (rule : Rule) → knows rule.code ≡ b → is_ensure d.op ≡ false → rule_at guards d.r ≡ Some rule → option_map NoSuchFun (cond b None (Some rule.code)) ≡ Some fault → (code : ℕ) × (NoSuchFun code ≡ fault) × Unruled d code
    known true rule knows_it changes has is = absurd cc
    known false rule lacks changes has is =
        let ruled = has_rule guards d.r rule has in
        (rule.code, cc, ((λ all. let knows_it = all (changes_by d.op changes) rule ruled in absurd cc), (rule, ruled, refl)))

    by : (b : Bool) → is_ensure d.op ≡ b → (rule : Option Rule) → rule_at guards d.r ≡ rule → option_map NoSuchFun (unknown knows (cond b None rule)) ≡ Some fault → (code : ℕ) × (NoSuchFun code ≡ fault) × Unruled d code
    by true ensures rule has is = absurd cc
    by false changes None has is = absurd cc
    by false changes (Some rule) has is = known (knows rule.code) rule refl changes has is

  same_rule : (n code other : ℕ) → RuledBy guards code n → RuledBy guards other n → code ≡ other
  same_rule n code other a b =
      let same : Some a.0 ≡ Some b.0 = sym (rule_is guards n a.0 a.1) ∙ rule_is guards n b.0 b.1 in
      let rules : a.0 ≡ b.0 = cc in
      sym a.2 ∙ (ap (λ (x : Rule). x.code) rules ∙ b.2)

  unruled_at : (d : Done) (code : ℕ) → Unruled d code → unknown_at knows guards d ≡ Some (NoSuchFun code)
  unfolding Unruled
  unruled_at d code lacks = by (unknown_at knows guards d) refl where
    by : (found : Option CommitFault) → unknown_at knows guards d ≡ found → unknown_at knows guards d ≡ Some (NoSuchFun code)
    by None is = absurd (lacks.0 (pred_by knows guards d is))
    by (Some fault) is =
        let one = unruled d fault is in
        is ∙ ap Some (sym one.1 ∙ ap NoSuchFun (same_rule d.r one.0 code one.2.1 lacks.1))

  -- the first operation on such a ref
  abbrev FirstUnruled : ℕ → List Done → Type 0
  FirstUnruled code ds = FirstWithout (λ (d : Done). Changes d.op → KnowsRuleOf knows guards d.r) (λ (d : Done). RuledBy guards code d.r) ds

  pub rule_first : (ds : List Done) (fault : CommitFault) → lacking_rule knows guards ds ≡ Some fault → (code : ℕ) × (NoSuchFun code ≡ fault) × FirstUnruled code ds
  unfolding Unruled
  rule_first [] fault is = absurd cc
  rule_first (d ∷ ds) fault is = by (some_or (unknown_at knows guards d) (lacking_rule knows guards ds) fault is) (rule_first ds fault) where
    by : (unknown_at knows guards d ≡ Some fault) ⊎ ((unknown_at knows guards d ≡ None) × (lacking_rule knows guards ds ≡ Some fault)) → (lacking_rule knows guards ds ≡ Some fault → (code : ℕ) × (NoSuchFun code ≡ fault) × FirstUnruled code ds)
        → (code : ℕ) × (NoSuchFun code ≡ fault) × FirstUnruled code (d ∷ ds)
    by (inl here) later =
        let one = unruled d fault here in
        (one.0, one.1, inl one.2)
    by (inr rest) later =
        let one = later rest.1 in
        (one.0, one.1, inr (pred_by knows guards d rest.0, one.2))

  pub first_rule : (ds : List Done) (code : ℕ) → FirstUnruled code ds → lacking_rule knows guards ds ≡ Some (NoSuchFun code)
  unfolding Unruled
  first_rule [] code first = absurd first
  first_rule (d ∷ ds) code (inl here) = or_some (unknown_at knows guards d) (lacking_rule knows guards ds) (NoSuchFun code) (unruled_at d code here)
  first_rule (d ∷ ds) code (inr later) = or_later (unknown_at knows guards d) (lacking_rule knows guards ds) (NoSuchFun code) (none d later.0) (first_rule ds code later.1) where
    none : (x : Done) → (Changes x.op → KnowsRuleOf knows guards x.r) → unknown_at knows guards x ≡ None
    none x all = by (unknown_at knows guards x) refl where
      by : (found : Option CommitFault) → unknown_at knows guards x ≡ found → unknown_at knows guards x ≡ None
      by None is = is
      by (Some fault) is = absurd ((unruled x fault is).2.0 all)

-- ---- the smallest protected ref

-- the first of numbers in a row of which something holds
pub range_found : (p : ℕ → Bool) (n from r : ℕ) → find p (range_with_len from n) ≡ Some r → (p r ≡ true) × (from ≤ r) × (r < from + n) × ((q : ℕ) → from ≤ q → q < r → p q ≡ false)
range_found p zero from r is = absurd cc
range_found p (suc n) from r is = by (p from) refl is (range_found p n (from + 1) r) where
  by : (b : Bool) → p from ≡ b → cond b (Some from) (find p (range_with_len (from + 1) n)) ≡ Some r
      → (find p (range_with_len (from + 1) n) ≡ Some r → (p r ≡ true) × (from + 1 ≤ r) × (r < from + 1 + n) × ((q : ℕ) → from + 1 ≤ q → q < r → p q ≡ false))
      → (p r ≡ true) × (from ≤ r) × (r < from + suc n) × ((q : ℕ) → from ≤ q → q < r → p q ≡ false)
  by true holds is later =
      let same : from ≡ r = cc in
      (ap p (sym same) ∙ holds, omega (arith, same), omega (arith, same), λ q after before. absurd (omega (arith, same, after, before)))
  by false fails is later =
      let rest = later is in
      let lower = rest.1 in
      let upper = rest.2 in
      (rest.0, omega (arith, lower), omega (arith, upper), λ q after before. at q after before (cases_order from q))
    where
      at : (q : ℕ) → from ≤ q → q < r → (from ≡ q) ⊎ ((from < q) ⊎ (q < from)) → p q ≡ false
      at q after before (inl same) = ap p (sym same) ∙ fails
      at q after before (inr (inl less)) = (later is).3 q (omega (arith, less)) before
      at q after before (inr (inr more)) = absurd (omega (arith, after, more))

pub found_range : (p : ℕ → Bool) (n from r : ℕ) → p r ≡ true → from ≤ r → r < from + n → ((q : ℕ) → from ≤ q → q < r → p q ≡ false) → find p (range_with_len from n) ≡ Some r
found_range p zero from r holds after below first = absurd (omega (arith, after, below))
found_range p (suc n) from r holds after below first = by (cases_order from r) (found_range p n (from + 1) r holds) where
  by : (from ≡ r) ⊎ ((from < r) ⊎ (r < from)) → (from + 1 ≤ r → r < from + 1 + n → ((q : ℕ) → from + 1 ≤ q → q < r → p q ≡ false) → find p (range_with_len (from + 1) n) ≡ Some r) → cond (p from) (Some from) (find p (range_with_len (from + 1) n)) ≡ Some r
  by (inl same) later = ap (λ b. cond b (Some from) (find p (range_with_len (from + 1) n))) (ap p same ∙ holds) ∙ ap Some same
  by (inr (inl less)) later = ap (λ b. cond b (Some from) (find p (range_with_len (from + 1) n))) (first from (omega arith) less) ∙ later (omega (arith, less)) (omega (arith, below)) (λ q lower before. first q (omega (arith, lower)) before)
  by (inr (inr more)) later = absurd (omega (arith, after, more))

-- The smallest protected ref that is here and of which something holds.
FirstHolds : List Edn → List Done → (ℕ → Bool) → ℕ → Type 0
FirstHolds values ds holds r = IsProtected ds r × (r < length values) × (holds r ≡ true) × ((q : ℕ) → q < r → IsProtected ds q → holds q ≡ false)

protected_first : (values : List Edn) (ds : List Done) (holds : ℕ → Bool) (r : ℕ) → first_protected values ds holds ≡ Some r → FirstHolds values ds holds r
unfolding FirstHolds
protected_first values ds holds r is =
    let found = range_found (λ q. is_protected ds q && holds q) (length values) 0 r is in
    let parts = and_parts (is_protected ds r) (holds r) found.0 in
    let below = found.2 in
    (protected_is ds r parts.0, omega (arith, below), parts.1, λ q before protected. after_and (is_protected ds q) (holds q) (is_protected_by ds q protected) (found.3 q (omega arith) before))
  where
    after_and : (b c : Bool) → b ≡ true → (b && c) ≡ false → c ≡ false
    after_and true c is none = none
    after_and false c is none = absurd cc

first_is_protected : (values : List Edn) (ds : List Done) (holds : ℕ → Bool) (r : ℕ) → FirstHolds values ds holds r → first_protected values ds holds ≡ Some r
unfolding FirstHolds
first_is_protected values ds holds r first =
    let below = first.1 in
    found_range (λ q. is_protected ds q && holds q) (length values) 0 r (and_from (is_protected ds r) (holds r) (is_protected_by ds r first.0) first.2) (omega arith) (omega (arith, below)) (λ q after before. by q before (is_protected ds q) refl)
  where
    by : (q : ℕ) → q < r → (b : Bool) → is_protected ds q ≡ b → (b && holds q) ≡ false
    by q before true protected = first.3 q before (protected_is ds q protected)
    by q before false free = refl

last_is : (lasts : List ℕ) (point r : ℕ) → changed_after lasts point r ≡ true → slice_get lasts r ≡ Some (changed_at lasts r)
last_is lasts point r changed = by (slice_get lasts r) refl where
  by : (found : Option ℕ) → slice_get lasts r ≡ found → slice_get lasts r ≡ Some (changed_at lasts r)
  by None is =
      let at : changed_at lasts r ≡ 0 = sym (unwrap_or-slice_get lasts r 0) ∙ rw is refl in
      let later = ltb-true point (changed_at lasts r) changed in
      absurd (omega (arith, at, later))
  by (Some last) is = is ∙ ap Some (sym (get_or_from_slice_get lasts r last 0 is))

pub conflict_by : (store : RefsSeen) (tx : TxSeen) (fault : CommitFault) → conflict store tx ≡ Some fault → (c : told.Conflict) × (Conflict c ≡ fault) × NamesSmallest store tx c
unfolding FirstHolds
conflict_by store tx fault is =
    let one = map_some (conflict_on store.lasts tx.read_point) (first_protected store.values tx.dones (changed_after store.lasts tx.read_point)) fault is in
    let first = protected_first store.values tx.dones (changed_after store.lasts tx.read_point) one.0 one.1 in (
      record { r = one.0; read_point = tx.read_point; changed_at = changed_at store.lasts one.0 },
      one.2,
      record {
        protected = first.0;
        read = refl;
        changed = last_is store.lasts tx.read_point one.0 first.2;
        later = ltb-true tx.read_point (changed_at store.lasts one.0) first.2;
        smallest = λ r last before protected is. last_by store.lasts tx.read_point r (first.3 r before protected) last is;
      },
    )

pub by_conflict : (store : RefsSeen) (tx : TxSeen) (c : told.Conflict) → HasRefs store tx → NamesSmallest store tx c → conflict store tx ≡ Some (Conflict c)
unfolding FirstHolds
by_conflict store tx c here named =
    let at : changed_at store.lasts c.r ≡ c.changed_at = get_or_from_slice_get store.lasts c.r c.changed_at 0 named.changed in
    let later = named.later in
    let first = first_is_protected store.values tx.dones (changed_after store.lasts tx.read_point) c.r
    (named.protected, here_by store.values tx.dones here c.r named.protected, lt-ltb tx.read_point (changed_at store.lasts c.r) (omega (arith, at, later)), λ q before protected. by_last store.lasts tx.read_point q (λ last is. named.smallest q last before protected is)) in
    ap (option_map (conflict_on store.lasts tx.read_point)) first ∙ (λ i. Some (Conflict (record { r = c.r; read_point = sym named.read i; changed_at = at i })))

pub other_by : (store : RefsSeen) (tx : TxSeen) (fault : CommitFault) → HasRefs store tx → alien_value store.values tx ≡ Some fault → (r : ℕ) × (Foreign (aliens.Value r) ≡ fault) × IsSmallestOther store tx r
unfolding FirstHolds
other_by store tx fault here is =
    let one = map_some (λ r. Foreign (aliens.Value r)) (first_protected store.values tx.dones (differs_at store.values tx.began)) fault is in
    let first = protected_first store.values tx.dones (differs_at store.values tx.began) one.0 one.1 in (
      one.0,
      one.2,
      record {
        protected = first.0;
        other = λ same. let no : differs_at store.values tx.began one.0 ≡ false = ap (λ v. differs v (slice_get store.values one.0)) (sym same) ∙ differs_itself (slice_get store.values one.0) in let yes = first.2 in absurd cc;
        smallest = λ q before protected. let v = there store.values q (here_by store.values tx.dones here q protected) in same_by (slice_get tx.began q) (slice_get store.values q) v.0 v.1 (first.3 q before protected);
      },
    )

pub by_other : (store : RefsSeen) (tx : TxSeen) (r : ℕ) → HasRefs store tx → IsSmallestOther store tx r → alien_value store.values tx ≡ Some (Foreign (aliens.Value r))
unfolding FirstHolds
by_other store tx r here other =
    let below = here_by store.values tx.dones here r other.protected in
    let v = there store.values r below in
    ap (option_map (λ n. Foreign (aliens.Value n))) (first_is_protected store.values tx.dones (differs_at store.values tx.began) r
    (other.protected, below, true_from_ne_false (differs_at store.values tx.began r) (λ same. other.other (same_by (slice_get tx.began r) (slice_get store.values r) v.0 v.1 same)), λ q before protected. ap (λ w. differs w (slice_get store.values q)) (sym (other.smallest q before protected)) ∙ differs_itself (slice_get store.values q)))

-- ---- what refuses

pub place_refuses : (means : Means) (op : Op) (old : Edn) (cause : Cause) → place means op old ≡ Err cause → RefusesValue means op old cause
place_refuses means (Set w) old cause is = absurd cc
place_refuses means (Alter code args) old cause is = is
place_refuses means (Commute code args) old cause is = is
place_refuses means Ensure old cause is = absurd cc

pub refuses_place : (means : Means) (op : Op) (old : Edn) (cause : Cause) → RefusesValue means op old cause → place means op old ≡ Err cause
refuses_place means (Set w) old cause is = absurd is
refuses_place means (Alter code args) old cause is = is
refuses_place means (Commute code args) old cause is = is
refuses_place means Ensure old cause is = absurd is

-- so it is of the operations after one, whatever that gives
abbrev RefusedLater : Means → ℕ → List Done → List Edn → CommitFault → Type 0
RefusedLater means i ds values fault = (v : Edn) → refused means ds (slice_set values i v) ≡ Some fault → (r : ℕ) × (cause : Cause) × (Refused r cause ≡ fault) × RefusedOn means r cause ds (slice_set values i v)

pub refused_by : (means : Means) (ds : List Done) (values : List Edn) (fault : CommitFault) → refused means ds values ≡ Some fault → (r : ℕ) × (cause : Cause) × (Refused r cause ≡ fault) × RefusedOn means r cause ds values
refused_by means [] values fault is = absurd cc
refused_by means (d ∷ ds) values fault is = by (slice_get values d.r) refl is (λ v. refused_by means ds (slice_set values d.r v) fault) where
  one : (old : Edn) → slice_get values d.r ≡ Some old → (gives : Result Edn Cause) → place means d.op old ≡ gives → refused_at d.r (Some gives) (λ v. refused means ds (slice_set values d.r v)) ≡ Some fault → RefusedLater means d.r ds values fault → (r : ℕ) × (cause : Cause) × (Refused r cause ≡ fault) × RefusedOn means r cause (d ∷ ds) values
  one old here (Ok new) gives is later =
      let rest = later new is in
      (rest.0, rest.1, rest.2, (old, here, inr (new, place_makes means d.op old new gives, rest.3)))
  one old here (Err cause) gives is later = (d.r, cause, cc, (old, here, inl (refl, place_refuses means d.op old cause gives)))

  by : (found : Option Edn) → slice_get values d.r ≡ found → refused_at d.r (option_map (place means d.op) found) (λ v. refused means ds (slice_set values d.r v)) ≡ Some fault → RefusedLater means d.r ds values fault → (r : ℕ) × (cause : Cause) × (Refused r cause ≡ fault) × RefusedOn means r cause (d ∷ ds) values
  by None here is later = absurd cc
  by (Some old) here is later = one old here (place means d.op old) refl is later

pub by_refused : (means : Means) (ds : List Done) (values : List Edn) (r : ℕ) (cause : Cause) → RefusedOn means r cause ds values → refused means ds values ≡ Some (Refused r cause)
by_refused means [] values r cause on = absurd on
by_refused means (d ∷ ds) values r cause (old, here, inl refuses) =
    ap (λ found. refused_at d.r (option_map (place means d.op) found) (λ v. refused means ds (slice_set values d.r v))) here
    ∙ (ap (λ gives. refused_at d.r (Some gives) (λ v. refused means ds (slice_set values d.r v))) (refuses_place means d.op old cause refuses.1)
    ∙ ap (λ n. Some (Refused n cause)) refuses.0)
by_refused means (d ∷ ds) values r cause (old, here, inr (new, makes, later)) =
    ap (λ found. refused_at d.r (option_map (place means d.op) found) (λ v. refused means ds (slice_set values d.r v))) here
    ∙ (ap (λ gives. refused_at d.r (Some gives) (λ v. refused means ds (slice_set values d.r v))) (makes_place means d.op old new makes)
    ∙ by_refused means ds (slice_set values d.r new) r cause later)

-- ---- the smallest ref whose rule refuses

pub rank : (k x : ℕ) → MatchOrdering (nat_cmp k x) (k < x) (k ≡ x) (x < k)
rank k x = by (cases_order k x) where
  by : (k ≡ x) ⊎ ((k < x) ⊎ (x < k)) → MatchOrdering (nat_cmp k x) (k < x) (k ≡ x) (x < k)
  by (inl same) = subst (λ o. MatchOrdering o (k < x) (k ≡ x) (x < k)) (nat_cmp_is k x Equal same) same
  by (inr (inl less)) = subst (λ o. MatchOrdering o (k < x) (k ≡ x) (x < k)) (nat_cmp_is k x Less less) less
  by (inr (inr more)) = subst (λ o. MatchOrdering o (k < x) (k ≡ x) (x < k)) (nat_cmp_is k x Greater more) more

insert_rises : (ns : List ℕ) (k : ℕ) → AreRising ns → AreRising (insert_key nat_cmp ns k)
insert_rises [] k up = (tt, tt)
insert_rises (x ∷ xs) k up = by (nat_cmp k x) (rank k x) (insert_rises xs k up.1) where
  by : (o : Ordering) → MatchOrdering o (k < x) (k ≡ x) (x < k) → AreRising (insert_key nat_cmp xs k) → AreRising (match_ordering o (k ∷ x ∷ xs) (x ∷ xs) (x ∷ insert_key nat_cmp xs k))
  by Less less later = ((less, all_map (λ m. x < m) (λ m. k < m) (λ m more. omega (arith, less, more)) xs up.0), up)
  by Equal same later = up
  by Greater more later = (insert_from (λ m. x < m) xs k up.0 more, later)

pub touched_rises : (rs : List ℕ) (ds : List Done) → AreRising rs → AreRising (touched_from rs ds)
touched_rises rs [] up = up
touched_rises rs (d ∷ ds) up = by (is_ensure d.op) (λ more so. touched_rises more ds so) where
  by : (b : Bool) → ((more : List ℕ) → AreRising more → AreRising (touched_from more ds)) → AreRising (touched_from (cond b rs (insert_key nat_cmp rs d.r)) ds)
  by true later = later rs up
  by false later = later (insert_key nat_cmp rs d.r) (insert_rises rs d.r up)

first_smallest : (p : ℕ → Bool) (ns : List ℕ) (r : ℕ) → AreRising ns → find (λ n. not (p n)) ns ≡ Some r → (p r ≡ false) × AnyByRecursion (λ n. n ≡ r) ns × AllByRecursion (λ n. n < r → p n ≡ true) ns
first_smallest p [] r up is = absurd cc
first_smallest p (n ∷ ns) r up is = by (p n) refl is (first_smallest p ns r up.1) where
  by : (b : Bool) → p n ≡ b → cond (not b) (Some n) (find (λ m. not (p m)) ns) ≡ Some r
      → (find (λ m. not (p m)) ns ≡ Some r → (p r ≡ false) × AnyByRecursion (λ m. m ≡ r) ns × AllByRecursion (λ m. m < r → p m ≡ true) ns)
      → (p r ≡ false) × AnyByRecursion (λ m. m ≡ r) (n ∷ ns) × AllByRecursion (λ m. m < r → p m ≡ true) (n ∷ ns)
  by true passes is later =
      let rest = later is in
      (rest.0, inr rest.1, ((λ less. passes), rest.2))
  by false fails is later =
      let same : n ≡ r = cc in
      (ap p (sym same) ∙ fails, inl same, ((λ less. absurd (omega (arith, same, less))), all_map (λ m. n < m) (λ m. m < r → p m ≡ true) (λ m more less. absurd (omega (arith, same, more, less))) ns up.0))

none_such : (ns : List ℕ) (r : ℕ) → AllByRecursion (λ n. n ≢ r) ns → AnyByRecursion (λ n. n ≡ r) ns → ⊥
none_such [] r all any = any
none_such (n ∷ ns) r all (inl here) = all.0 here
none_such (n ∷ ns) r all (inr there) = none_such ns r all.1 there

-- a touched ref is changed
pub touched_is : (ds : List Done) (r : ℕ) → is_touched ds r ≡ true → IsChanged ds r
touched_is ds r = some_passes (λ (d : Done). d.r == r && not (is_ensure d.op)) (λ (d : Done). (d.r ≡ r) × Changes d.op) one ds where
  one : (d : Done) → (d.r == r && not (is_ensure d.op)) ≡ true → (d.r ≡ r) × Changes d.op
  one d is =
      let parts = and_parts (d.r == r) (not (is_ensure d.op)) is in
      (eqb-true d.r r parts.0, changes_by d.op (not-true (is_ensure d.op) parts.1))

pub is_touched_by : (ds : List Done) (r : ℕ) → IsChanged ds r → is_touched ds r ≡ true
is_touched_by ds r = any_pass (λ (d : Done). d.r == r && not (is_ensure d.op)) (λ (d : Done). (d.r ≡ r) × Changes d.op) one ds where
  one : (d : Done) → (d.r ≡ r) × Changes d.op → (d.r == r && not (is_ensure d.op)) ≡ true
  one d is = and_from (d.r == r) (not (is_ensure d.op)) (eq-eqb d.r r is.0) (ap not (by_changes d.op is.1))

pub changed_of : (ds : List Done) (r : ℕ) → AnyByRecursion (λ n. n ≡ r) (touched_refs ds) → IsChanged ds r
changed_of ds r any = by (is_touched ds r) refl where
  by : (b : Bool) → is_touched ds r ≡ b → IsChanged ds r
  by true touched = touched_is ds r touched
  by false untouched =
      let each = any_each (λ (d : Done). d.r) (λ (d : Done). Changes d.op) (λ n. n ≢ r) ds (λ n changed same. let touched = ap (is_touched ds) (sym same) ∙ is_touched_by ds n changed in absurd cc) in
      absurd (none_such (touched_refs ds) r (touched_each (λ n. n ≢ r) [] ds tt each) any)

module _ (accepts : Accepts) (store : RefsSeen) (tx : TxSeen) (after : List Edn) where
  Refuses : ℕ → Type 0
  Refuses r = (rule : Rule) × HasRule store.guards r rule × ((v : Edn) × (slice_get after r ≡ Some v) × (accepts rule.code rule.args v ≡ false))

  refusing : (r : ℕ) → is_accepted_at accepts store.guards after r ≡ false → Refuses r
  unfolding Refuses
  refusing r is = by (rule_at store.guards r) refl (slice_get after r) refl is where
    by : (rule : Option Rule) → rule_at store.guards r ≡ rule → (here : Option Edn) → slice_get after r ≡ here → passes_if_here accepts rule here ≡ false → Refuses r
    by rule has None here is = absurd cc
    by None has (Some v) here is = absurd cc
    by (Some rule) has (Some v) here is = (rule, has_rule store.guards r rule has, (v, here, is))

  smallest_invalid : (r : ℕ) → first_invalid accepts store.guards after (touched_refs tx.dones) ≡ Some r → IsSmallestInvalid accepts store tx after r
  unfolding Refuses
  smallest_invalid r is =
      let found = first_smallest (is_accepted_at accepts store.guards after) (touched_refs tx.dones) r (touched_rises [] tx.dones tt) is in
      let no = refusing r found.0 in
      record {
        changed = changed_of tx.dones r found.1;
        rule = no.0;
        has = no.1;
        value = no.2.0;
        here = no.2.1;
        refuses = no.2.2;
        smallest = λ q v before changed here.
            accepts_by accepts store.guards after q
            (each_any (λ (d : Done). d.r) (λ (d : Done). Changes d.op) (λ n. n < r → IsAcceptedAt accepts store.guards after n) tx.dones
            (each_touched (λ n. n < r → IsAcceptedAt accepts store.guards after n) [] tx.dones found.2).1 q changed before) v here;
      }

  pub invalid_by : (fault : CommitFault) → invalid accepts store.guards tx.dones (Ok after) ≡ Some fault → (r : ℕ) × (Invalid r ≡ fault) × IsSmallestInvalid accepts store tx after r
  invalid_by fault is =
      let one = map_some Invalid (first_invalid accepts store.guards after (touched_refs tx.dones)) fault is in
      (one.0, one.2, smallest_invalid one.0 one.1)

  not_both : (q r : ℕ) → q < r → IsSmallestInvalid accepts store tx after q → IsSmallestInvalid accepts store tx after r → ⊥
  not_both q r before a b =
      let yes = b.smallest q a.value before a.changed a.here a.rule a.has in
      let no = a.refuses in
      cc

  pub by_invalid : (r : ℕ) → IsSmallestInvalid accepts store tx after r → invalid accepts store.guards tx.dones (Ok after) ≡ Some (Invalid r)
  by_invalid r it = by (first_invalid accepts store.guards after (touched_refs tx.dones)) refl where
    by : (found : Option ℕ) → first_invalid accepts store.guards after (touched_refs tx.dones) ≡ found → invalid accepts store.guards tx.dones (Ok after) ≡ Some (Invalid r)
    by None none =
        let yes = accepted_by accepts store.guards tx.dones after (ap (option_map Invalid) none) r it.value it.changed it.here it.rule it.has in
        let no = it.refuses in
        absurd cc
    by (Some q) found = ap (option_map Invalid) found ∙ ap (λ n. Some (Invalid n)) (same (cases_order q r) (smallest_invalid q found)) where
      same : (q ≡ r) ⊎ ((q < r) ⊎ (r < q)) → IsSmallestInvalid accepts store tx after q → q ≡ r
      same (inl is) other = is
      same (inr (inl less)) other = absurd (not_both q r less other it)
      same (inr (inr more)) other = absurd (not_both r q more it other)

-- ---- the points

past_by : (at : ℕ) (fault : CommitFault) → past_points at ≡ Some fault → (PointLimit ≡ fault) × (2 ^ 62 < at)
past_by at fault is = by (nat_lt (2 ^ 62) at) refl is where
  by : (b : Bool) → nat_lt (2 ^ 62) at ≡ b → cond b (Some PointLimit) None ≡ Some fault → (PointLimit ≡ fault) × (2 ^ 62 < at)
  by true past is = (cc, ltb-true (2 ^ 62) at past)
  by false within is = absurd cc

by_past : (at : ℕ) → 2 ^ 62 < at → past_points at ≡ Some PointLimit
by_past at past = ap (λ b. cond b (Some PointLimit) None) (lt-ltb (2 ^ 62) at past)

-- ---- all together

module _ (means : Means) (accepts : Accepts) (knows : Known) (store : RefsSeen) (at agents most_added most_taken : ℕ) (tx : TxSeen) where
  abbrev Says : CommitFault → Type 0
  Says fault = Why means accepts knows store at agents tx most_added most_taken fault

  here_of : alien store at agents tx ≡ None → IsHere means accepts knows store at agents tx
  here_of none =
      let a = none_of (alien_ref store.values tx.dones) _ none in
      let b = none_of (alien_agent agents tx.sends) _ a.1 in
      let c = none_of (alien_tally store.tally tx.dones) (alien_point at tx.read_point) b.1 in
      (refs_by store.values tx.dones a.0, sends_by agents tx.sends b.0, tally_by store.tally tx.dones c.0, read_by at tx.read_point c.1)

  of_here : IsHere means accepts knows store at agents tx → alien store at agents tx ≡ None
  of_here here =
      none_or (alien_ref store.values tx.dones) _ (by_refs store.values tx.dones here.0)
      (none_or (alien_agent agents tx.sends) _ (by_sends agents tx.sends here.1)
      (none_or (alien_tally store.tally tx.dones) (alien_point at tx.read_point) (by_tally store.tally tx.dones here.2) (by_read at tx.read_point here.3)))

  alien_says : (fault : CommitFault) → alien store at agents tx ≡ Some fault → Says fault
  alien_says fault is = refs (some_or (alien_ref store.values tx.dones) _ fault is) where
    point : HasRefs store tx → HasAgents agents tx → OnlyCounts store tx → alien_point at tx.read_point ≡ Some fault → Says fault
    point a b c is =
        let one = point_by at tx.read_point fault is in
        subst Says one.0 (a, b, c, refl, one.1)

    tally : HasRefs store tx → HasAgents agents tx → (alien_tally store.tally tx.dones ≡ Some fault) ⊎ ((alien_tally store.tally tx.dones ≡ None) × (alien_point at tx.read_point ≡ Some fault)) → Says fault
    tally a b (inl is) =
        let one = miscount_by store.tally tx.dones fault is in
        subst Says one.0 (a, b, one.1)
    tally a b (inr rest) = point a b (tally_by store.tally tx.dones rest.0) rest.1

    sends : HasRefs store tx → (alien_agent agents tx.sends ≡ Some fault) ⊎ ((alien_agent agents tx.sends ≡ None) × (or_fault (alien_tally store.tally tx.dones) (alien_point at tx.read_point) ≡ Some fault)) → Says fault
    sends a (inl is) =
        let one = agent_by agents tx.sends fault is in
        subst Says one.1 (a, one.2)
    sends a (inr rest) = tally a (sends_by agents tx.sends rest.0) (some_or (alien_tally store.tally tx.dones) (alien_point at tx.read_point) fault rest.1)

    refs : (alien_ref store.values tx.dones ≡ Some fault) ⊎ ((alien_ref store.values tx.dones ≡ None) × (or_fault (alien_agent agents tx.sends) (or_fault (alien_tally store.tally tx.dones) (alien_point at tx.read_point)) ≡ Some fault)) → Says fault
    refs (inl is) =
        let one = ref_by store.values tx.dones fault is in
        subst Says one.1 one.2
    refs (inr rest) = sends (refs_by store.values tx.dones rest.0) (some_or (alien_agent agents tx.sends) _ fault rest.1)

  early_says : (fault : CommitFault) → early_refusal knows store at agents tx ≡ Some fault → Says fault
  early_says fault is = first (some_or (alien store at agents tx) _ fault is) where
    value : IsKnown means accepts knows store at agents tx → conflict store tx ≡ None → alien_value store.values tx ≡ Some fault → Says fault
    value known none is =
        let one = other_by store tx fault known.0.0 is in
        subst Says one.1 (known, unchanged_by store tx known.0.0 none, one.2)

    clash : IsKnown means accepts knows store at agents tx → (conflict store tx ≡ Some fault) ⊎ ((conflict store tx ≡ None) × (alien_value store.values tx ≡ Some fault)) → Says fault
    clash known (inl is) =
        let one = conflict_by store tx fault is in
        subst Says one.1 (known, one.2)
    clash known (inr rest) = value known rest.0 rest.1

    preds : IsHere means accepts knows store at agents tx → lacking knows.funs tx.dones ≡ None → (lacking_rule knows.preds store.guards tx.dones ≡ Some fault) ⊎ ((lacking_rule knows.preds store.guards tx.dones ≡ None) × (or_fault (conflict store tx) (alien_value store.values tx) ≡ Some fault)) → Says fault
    preds here none (inl is) =
        let one = rule_first knows.preds store.guards tx.dones fault is in
        subst Says one.1 (here, inr (funs_by knows.funs tx.dones none, one.2))
    preds here none (inr rest) = clash (here, funs_by knows.funs tx.dones none, preds_by knows.preds store.guards tx.dones rest.0) (some_or (conflict store tx) (alien_value store.values tx) fault rest.1)

    funs : IsHere means accepts knows store at agents tx → (lacking knows.funs tx.dones ≡ Some fault) ⊎ ((lacking knows.funs tx.dones ≡ None) × (or_fault (lacking_rule knows.preds store.guards tx.dones) (or_fault (conflict store tx) (alien_value store.values tx)) ≡ Some fault)) → Says fault
    funs here (inl is) =
        let one = fun_by knows tx fault is in
        subst Says one.1 (here, inl one.2)
    funs here (inr rest) = preds here rest.0 (some_or (lacking_rule knows.preds store.guards tx.dones) _ fault rest.1)

    first : (alien store at agents tx ≡ Some fault) ⊎ ((alien store at agents tx ≡ None) × (or_fault (lacking knows.funs tx.dones) (or_fault (lacking_rule knows.preds store.guards tx.dones) (or_fault (conflict store tx) (alien_value store.values tx))) ≡ Some fault)) → Says fault
    first (inl is) = alien_says fault is
    first (inr rest) = funs (here_of rest.0) (some_or (lacking knows.funs tx.dones) _ fault rest.1)

  current_of : early_refusal knows store at agents tx ≡ None → IsCurrent means accepts knows store at agents tx
  current_of none =
      let a = none_of (alien store at agents tx) _ none in
      let b = none_of (lacking knows.funs tx.dones) _ a.1 in
      let c = none_of (lacking_rule knows.preds store.guards tx.dones) _ b.1 in
      let d = none_of (conflict store tx) (alien_value store.values tx) c.1 in
      let here = here_of a.0 in
      ((here, funs_by knows.funs tx.dones b.0, preds_by knows.preds store.guards tx.dones c.0), unchanged_by store tx here.0 d.0, values_by store.values tx here.0 d.1)

  pub says : (fault : CommitFault) → IsTx means tx.began tx.dones tx.tally → commit_refusal means accepts knows store at agents most_added most_taken tx ≡ Some fault → Says fault
  says fault is refusal = first (some_or (early_refusal knows store at agents tx) _ fault refusal) where
    books : IsMade means accepts knows store at agents tx → (past_points at ≡ Some fault) ⊎ ((past_points at ≡ None) × (full_book most_added most_taken store.tally tx.dones ≡ Some fault)) → Says fault
    books made (inl is) =
        let one = past_by at fault is in
        subst Says one.0 (made, one.1)
    books made (inr rest) =
        let one = full_by most_added most_taken store.tally tx.dones fault rest.1 in
        subst Says one.0 (made, not_past at (nat_lt (2 ^ 62) at) refl rest.0, sums one.1) where
          tally : AllByRecursion (λ (d : Done). store.tally ≡ Some d.r → Counts d.op) tx.dones
          tally = made.0.0.0.2

          sums : (most_added < moved_by_dones Added store.tally tx.dones) ⊎ (most_taken < moved_by_dones Taken store.tally tx.dones)
              → ((sum : ℕ) × SumsTo store.tally 1 tx.dones sum × (most_added < sum)) ⊎ ((sum : ℕ) × SumsTo store.tally 2 tx.dones sum × (most_taken < sum))
          sums (inl up) = inl (moved_by_dones Added store.tally tx.dones, sums_to Added store.tally tx.dones tally, up)
          sums (inr down) = inr (moved_by_dones Taken store.tally tx.dones, sums_to Taken store.tally tx.dones tally, down)

    rules : IsCurrent means accepts knows store at agents tx → (after : List Edn) → Leads means tx.dones tx.dones store.values after
        → (invalid accepts store.guards tx.dones (Ok after) ≡ Some fault) ⊎ ((invalid accepts store.guards tx.dones (Ok after) ≡ None) × (or_fault (past_points at) (full_book most_added most_taken store.tally tx.dones) ≡ Some fault)) → Says fault
    rules current after leads (inl is) =
        let one = invalid_by accepts store tx after fault is in
        subst Says one.1 (current, (after, leads, one.2))
    rules current after leads (inr rest) =
        books (current, (after, leads, accepted_by accepts store.guards tx.dones after rest.0)) (some_or (past_points at) (full_book most_added most_taken store.tally tx.dones) fault rest.1)

    places : IsCurrent means accepts knows store at agents tx → (refused means tx.dones store.values ≡ Some fault) ⊎ ((refused means tx.dones store.values ≡ None)
        × (or_fault (invalid accepts store.guards tx.dones (after_dones means tx.dones at tx.dones (Ok store.values))) (or_fault (past_points at) (full_book most_added most_taken store.tally tx.dones)) ≡ Some fault)) → Says fault
    places current (inl is) =
        let one = refused_by means tx.dones store.values fault is in
        subst Says one.2 (current, one.3)
    places current (inr rest) =
        let leads = lead_on means accepts knows store at agents tx is current.0.0.0 current.2 rest.0 in
        let made = leads_after means tx.dones at tx.dones store.values leads.0 leads.1 in
        let late = or_fault (past_points at) (full_book most_added most_taken store.tally tx.dones) in
        rules current leads.0 leads.1 (some_or (invalid accepts store.guards tx.dones (Ok leads.0)) late fault (ap (λ l. or_fault (invalid accepts store.guards tx.dones l) late) (sym made) ∙ rest.1))

    first : (early_refusal knows store at agents tx ≡ Some fault) ⊎ ((early_refusal knows store at agents tx ≡ None) × (or_fault (refused means tx.dones store.values) (or_fault (invalid accepts store.guards tx.dones (after_dones means tx.dones at tx.dones (Ok store.values))) (or_fault (past_points at) (full_book most_added most_taken store.tally tx.dones))) ≡ Some fault)) → Says fault
    first (inl is) = early_says fault is
    first (inr rest) = places (current_of rest.0) (some_or (refused means tx.dones store.values) _ fault rest.1)

  -- ---- and back

  by_alien : (fault : CommitFault) → alien store at agents tx ≡ Some fault → commit_refusal means accepts knows store at agents most_added most_taken tx ≡ Some fault
  by_alien fault is = or_some (early_refusal knows store at agents tx) _ fault (or_some (alien store at agents tx) _ fault is)

  by_here : (fault : CommitFault) → IsHere means accepts knows store at agents tx → or_fault (lacking knows.funs tx.dones) (or_fault (lacking_rule knows.preds store.guards tx.dones) (or_fault (conflict store tx) (alien_value store.values tx))) ≡ Some fault
      → commit_refusal means accepts knows store at agents most_added most_taken tx ≡ Some fault
  by_here fault here is = or_some (early_refusal knows store at agents tx) _ fault (or_later (alien store at agents tx) _ fault (of_here here) is)

  by_known : (fault : CommitFault) → IsKnown means accepts knows store at agents tx → or_fault (conflict store tx) (alien_value store.values tx) ≡ Some fault → commit_refusal means accepts knows store at agents most_added most_taken tx ≡ Some fault
  by_known fault known is =
      by_here fault known.0
      (or_later (lacking knows.funs tx.dones) _ fault (by_funs knows.funs tx.dones known.1)
      (or_later (lacking_rule knows.preds store.guards tx.dones) _ fault (by_preds knows.preds store.guards tx.dones known.2) is))

  of_current : IsCurrent means accepts knows store at agents tx → early_refusal knows store at agents tx ≡ None
  of_current current =
      none_or (alien store at agents tx) _ (of_here current.0.0)
      (none_or (lacking knows.funs tx.dones) _ (by_funs knows.funs tx.dones current.0.1)
      (none_or (lacking_rule knows.preds store.guards tx.dones) _ (by_preds knows.preds store.guards tx.dones current.0.2)
      (none_or (conflict store tx) (alien_value store.values tx) (by_unchanged store tx current.1) (by_values store.values tx current.2))))

  -- the end of points, and a full book
  abbrev late : Option CommitFault
  late = or_fault (past_points at) (full_book most_added most_taken store.tally tx.dones)

  by_current : (fault : CommitFault) → IsCurrent means accepts knows store at agents tx → or_fault (refused means tx.dones store.values) (or_fault (invalid accepts store.guards tx.dones (after_dones means tx.dones at tx.dones (Ok store.values))) late) ≡ Some fault
      → commit_refusal means accepts knows store at agents most_added most_taken tx ≡ Some fault
  by_current fault current is = or_later (early_refusal knows store at agents tx) _ fault (of_current current) is

  by_leads : (fault : CommitFault) → IsCurrent means accepts knows store at agents tx → (after : List Edn) → Leads means tx.dones tx.dones store.values after → or_fault (invalid accepts store.guards tx.dones (Ok after)) late ≡ Some fault
      → commit_refusal means accepts knows store at agents most_added most_taken tx ≡ Some fault
  by_leads fault current after leads is =
      by_current fault current
      (or_later (refused means tx.dones store.values) _ fault (leads_refused means tx.dones tx.dones store.values after leads)
      (ap (λ l. or_fault (invalid accepts store.guards tx.dones l) late) (leads_after means tx.dones at tx.dones store.values after leads) ∙ is))

  pub shows : (fault : CommitFault) → Says fault → commit_refusal means accepts knows store at agents most_added most_taken tx ≡ Some fault
  shows (Foreign (aliens.Ref r)) why = by_alien (Foreign (aliens.Ref r)) (or_some (alien_ref store.values tx.dones) _ (Foreign (aliens.Ref r)) (by_ref store.values tx.dones r why))
  shows (Foreign (aliens.Agent g)) why =
      by_alien (Foreign (aliens.Agent g))
      (or_later (alien_ref store.values tx.dones) _ (Foreign (aliens.Agent g)) (by_refs store.values tx.dones why.0)
      (or_some (alien_agent agents tx.sends) _ (Foreign (aliens.Agent g)) (by_agent agents tx.sends g why.1)))
  shows (Foreign aliens.Tally) why =
      by_alien (Foreign aliens.Tally)
      (or_later (alien_ref store.values tx.dones) _ (Foreign aliens.Tally) (by_refs store.values tx.dones why.0)
      (or_later (alien_agent agents tx.sends) _ (Foreign aliens.Tally) (by_sends agents tx.sends why.1)
      (or_some (alien_tally store.tally tx.dones) (alien_point at tx.read_point) (Foreign aliens.Tally) (by_miscount store.tally tx.dones why.2))))
  shows (Foreign (aliens.Point p)) why =
      let named : Some (Foreign (aliens.Point tx.read_point)) ≡ Some (Foreign (aliens.Point p)) = ap (λ n. Some (Foreign (aliens.Point n))) (sym why.3) in
      by_alien (Foreign (aliens.Point p))
      (or_later (alien_ref store.values tx.dones) _ (Foreign (aliens.Point p)) (by_refs store.values tx.dones why.0)
      (or_later (alien_agent agents tx.sends) _ (Foreign (aliens.Point p)) (by_sends agents tx.sends why.1)
      (or_later (alien_tally store.tally tx.dones) (alien_point at tx.read_point) (Foreign (aliens.Point p)) (by_tally store.tally tx.dones why.2) (by_point at tx.read_point (subst (λ n. at ≤ n) why.3 why.4) ∙ named))))
  shows (Foreign (aliens.Value r)) why =
      by_known (Foreign (aliens.Value r)) why.0
      (or_later (conflict store tx) (alien_value store.values tx) (Foreign (aliens.Value r)) (by_unchanged store tx why.1) (by_other store tx r why.0.0.0 why.2))
  shows (Conflict c) why = by_known (Conflict c) why.0 (or_some (conflict store tx) (alien_value store.values tx) (Conflict c) (by_conflict store tx c why.0.0.0 why.1))
  shows (Refused r cause) why = by_current (Refused r cause) why.0 (or_some (refused means tx.dones store.values) _ (Refused r cause) (by_refused means tx.dones store.values r cause why.1))
  shows (Invalid r) why =
      by_leads (Invalid r) why.0 why.1.0 why.1.1
      (or_some (invalid accepts store.guards tx.dones (Ok why.1.0)) late (Invalid r) (by_invalid accepts store tx why.1.0 r why.1.2))
  shows PointLimit ((current, (after, leads, rules)), past) =
      by_leads PointLimit current after leads
      (or_later (invalid accepts store.guards tx.dones (Ok after)) late PointLimit (by_accepted accepts store.guards tx.dones after rules)
      (or_some (past_points at) (full_book most_added most_taken store.tally tx.dones) PointLimit (by_past at past)))
  shows BookFull ((current, (after, leads, rules)), within, full) =
      by_leads BookFull current after leads
      (or_later (invalid accepts store.guards tx.dones (Ok after)) late BookFull (by_accepted accepts store.guards tx.dones after rules)
      (or_later (past_points at) (full_book most_added most_taken store.tally tx.dones) BookFull (by_within at within)
      (by_full most_added most_taken store.tally tx.dones (moved full)))) where
        moved : ((sum : ℕ) × SumsTo store.tally 1 tx.dones sum × (most_added < sum)) ⊎ ((sum : ℕ) × SumsTo store.tally 2 tx.dones sum × (most_taken < sum))
            → (most_added < moved_by_dones Added store.tally tx.dones) ⊎ (most_taken < moved_by_dones Taken store.tally tx.dones)
        moved (inl (sum, sums, above)) = inl (let same = sum_is Added store.tally tx.dones sum sums in omega (arith, same, above))
        moved (inr (sum, sums, above)) = inr (let same = sum_is Taken store.tally tx.dones sum sums in omega (arith, same, above))
  shows Memory why = absurd why
  shows (NoSuchFun code) (here, inl fun) = by_here (NoSuchFun code) here (or_some (lacking knows.funs tx.dones) _ (NoSuchFun code) (by_fun knows tx code fun))
  shows (NoSuchFun code) (here, inr (funs, pred)) =
      by_here (NoSuchFun code) here
      (or_later (lacking knows.funs tx.dones) _ (NoSuchFun code) (by_funs knows.funs tx.dones funs)
      (or_some (lacking_rule knows.preds store.guards tx.dones) _ (NoSuchFun code) (first_rule knows.preds store.guards tx.dones code pred)))

pub refusals_say_why : (means : Means) (accepts : Accepts) → RefusalsSayWhy means accepts
refusals_say_why means accepts knows store at agents most_added most_taken tx fault is = (says means accepts knows store at agents most_added most_taken tx fault is, shows means accepts knows store at agents most_added most_taken tx fault)
