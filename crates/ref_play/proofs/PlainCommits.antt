-- What a commit asks for, in plain words.
use Rattle.std.proofs.Common.{Equal, Greater, Less, Ordering, ◌≡◌, ℕ, zero, suc, pos, cond, ◌<◌, ◌≤◌, ◌^◌, ◌==◌, ◌&&◌, ◌||◌, not, nat_lt, Bool, true, false, inl, inr, List, [], ◌∷◌, ◌++◌, length, Option, None, Some, Result, Ok, Err, slice_get, slice_set, refl, sym, ap, subst, ◌∙◌, arith}
use Rattle.std.specs.List.{AllByRecursion, find}
use Rattle.std.specs.BTreeSet.{insert_key}
use Rattle.std.specs.Option.{option_map, option_or}
use Rattle.std.specs.Ordering.{match_ordering, nat_cmp}
use Rattle.std.specs.FinMap.{nat_cmp-IsAntisymmetric}
use Rattle.std.proofs.lemmas.List.{length-set}
use Rattle.std.proofs.lemmas.List.Folds.{find-append}
use Rattle.std.proofs.lemmas.Bool.{and_from, and_parts, eq-eqb, eqb-true, le-ltb, lt-ltb, ltb-false, ltb-true, not-false}
use Rattle.std.proofs.lemmas.Option.{get_or_from_slice_get, unwrap_or-slice_get}
use Rattle.ref_value.specs.Edn.{Edn, int}
use Rattle.ref_fun.specs.Calls.{Known}
use Rattle.ref_fun.specs.Meaning.{Means}
use Rattle.ref_fun.specs.Rule.{Accepts, unknown}
use Rattle.ref_fun.specs.declared.faults.Cause.{Cause}
use Rattle.ref_fun.specs.declared.rules.Rule.{Rule}
use Rattle.ref_log.specs.Guards.{is_accepted_at, passes_if_here, rule_at, rule_if_here}
use Rattle.ref_log.specs.Laws.{after_dones-Ok, is_kept-itself, same_value}
use Rattle.ref_log.specs.Replay.{after_done, after_dones, after_found, after_place, is_commute, is_kept, is_ensure, is_protected, missing, place}
use Rattle.ref_log.specs.Tally.{fit_tally, fits_tally, is_count, is_tally, moved_by_dones}
use Rattle.ref_log.specs.declared.counting.Side.TheVariants.{Added, Taken}
use Rattle.ref_log.specs.declared.faults.AuditFault.{AuditFault}
use Rattle.ref_log.specs.declared.guards.Guard.{Guard}
use Rattle.ref_log.specs.declared.operations.Done.{Done}
use Rattle.ref_log.specs.declared.operations.Op.{Op}
use Rattle.ref_log.specs.declared.operations.Op.TheVariants.{Set, Alter, Commute, Ensure}
use Rattle.ref_log.specs.declared.sends.Sent.{Sent}
use Rattle.ref_tx.specs.Inner.{AreAnswers, IsTx, and_place, given, value_after}
use Rattle.ref_tx.specs.Laws.{value_after-here}
use Rattle.ref_tx.specs.Seen.{TxSeen}
use Rattle.ref_fun.specs.Actions.{absent_agent}
use Rattle.ref_refs.specs.Commit.{alien, alien_agent, alien_point, alien_ref, alien_tally, alien_value, changed_after, commit_refusal, commuted_code, commuted_codes, conflict, conflict_on, differs, differs_at, early_refusal, first_absent, first_invalid, first_protected, has_ref, invalid, lacking, lacking_rule, needed_rule, full_book, or_fault, past_points, refused, refused_at, unknown_at}
use Rattle.ref_refs.specs.Seen.{RefsSeen, changed_at}
use Rattle.ref_refs.specs.Watches.{touched_from, touched_refs}
use Rattle.ref_refs.specs.declared.faults.Alien.TheVariants as aliens
use Rattle.ref_refs.specs.declared.faults.CommitFault.{CommitFault}
use Rattle.ref_refs.specs.declared.faults.CommitFault.TheVariants.{Foreign, Invalid, NoSuchFun, PointLimit}
use Rattle.ref_play.specs.Plain.{CanCommit, Changes, CommitsWhereItCan, Counts, HasCommuted, HasRule, IsChanged, IsProtected, KnowsRuleOf, Leads, Makes, Protects, RuleAccepts, agents_of, all_agents_of}
use Rattle.ref_play.proofs.Native.{changed_by_protected, differs_itself, mapped_none, none_of, not_past, range_none}
use Rattle.ref_play.proofs.Placed.{Agrees, agrees_more}
use Rattle.ref_play.proofs.PlainBooks.{has_room, not_full, sum_is, sums_to}
use Rattle.ref_play.proofs.PlainLists.{all_map, all_pass, any_each, any_pass, each_any, each_passes, found_none, none_found, none_range, some_passes}

-- ---- faults

pub none_or : (first later : Option CommitFault) → first ≡ None → later ≡ None → or_fault first later ≡ None
none_or None later a b = b
none_or (Some fault) later a b = absurd cc

if_none : (b : Bool) (fault : CommitFault) → cond b None (Some fault) ≡ None → b ≡ true
if_none true fault none = refl
if_none false fault none = absurd cc

-- ---- operations

pub makes_place : (means : Means) (op : Op) (old new : Edn) → Makes means op old new → place means op old ≡ Ok new
makes_place means (Set w) old new makes = ap Ok (sym makes)
makes_place means (Alter code args) old new makes = makes
makes_place means (Commute code args) old new makes = makes
makes_place means Ensure old new makes = ap Ok (sym makes)

pub place_makes : (means : Means) (op : Op) (old new : Edn) → place means op old ≡ Ok new → Makes means op old new
place_makes means (Set w) old new is = cc
place_makes means (Alter code args) old new is = is
place_makes means (Commute code args) old new is = is
place_makes means Ensure old new is = cc

protects_by : (op : Op) → not (is_commute op) ≡ true → Protects op
protects_by (Set w) is = tt
protects_by (Alter code args) is = tt
protects_by (Commute code args) is = absurd cc
protects_by Ensure is = tt

by_protects : (op : Op) → Protects op → not (is_commute op) ≡ true
by_protects (Set w) is = refl
by_protects (Alter code args) is = refl
by_protects (Commute code args) is = absurd is
by_protects Ensure is = refl

pub changes_by : (op : Op) → is_ensure op ≡ false → Changes op
changes_by (Set w) is = tt
changes_by (Alter code args) is = tt
changes_by (Commute code args) is = tt
changes_by Ensure is = absurd cc

pub by_changes : (op : Op) → Changes op → is_ensure op ≡ false
by_changes (Set w) is = refl
by_changes (Alter code args) is = refl
by_changes (Commute code args) is = refl
by_changes Ensure is = absurd is

pub protected_is : (ds : List Done) (r : ℕ) → is_protected ds r ≡ true → IsProtected ds r
protected_is ds r = some_passes (λ (d : Done). d.r == r && not (is_commute d.op)) (λ (d : Done). (d.r ≡ r) × Protects d.op) one ds where
  one : (d : Done) → (d.r == r && not (is_commute d.op)) ≡ true → (d.r ≡ r) × Protects d.op
  one d is =
      let parts = and_parts (d.r == r) (not (is_commute d.op)) is in
      (eqb-true d.r r parts.0, protects_by d.op parts.1)

pub is_protected_by : (ds : List Done) (r : ℕ) → IsProtected ds r → is_protected ds r ≡ true
is_protected_by ds r = any_pass (λ (d : Done). d.r == r && not (is_commute d.op)) (λ (d : Done). (d.r ≡ r) × Protects d.op) one ds where
  one : (d : Done) → (d.r ≡ r) × Protects d.op → (d.r == r && not (is_commute d.op)) ≡ true
  one d is = and_from (d.r == r) (not (is_commute d.op)) (eq-eqb d.r r is.0) (by_protects d.op is.1)

-- ---- what is here

pub refs_by : (values : List Edn) (ds : List Done) → alien_ref values ds ≡ None → AllByRecursion (λ d. d.r < length values) ds
refs_by values ds none =
    all_map (λ (d : Done). nat_lt d.r (length values) ≡ true) (λ (d : Done). d.r < length values) (λ d here. ltb-true d.r (length values) here) ds
    (found_none (λ (d : Done). has_ref values d.r) ds (mapped_none (λ (d : Done). Foreign (aliens.Ref d.r)) (find (λ (d : Done). not (has_ref values d.r)) ds) none))

pub by_refs : (values : List Edn) (ds : List Done) → AllByRecursion (λ d. d.r < length values) ds → alien_ref values ds ≡ None
by_refs values ds here =
    ap (option_map (λ (d : Done). Foreign (aliens.Ref d.r)))
    (none_found (λ (d : Done). has_ref values d.r) ds (all_map (λ (d : Done). d.r < length values) (λ (d : Done). nat_lt d.r (length values) ≡ true) (λ d below. lt-ltb d.r (length values) below) ds here))

-- the first agent that isn't here is the first of all that get something
pub found_all : (agents : ℕ) (ss : List Sent) → first_absent agents ss ≡ find (λ h. not (nat_lt h agents)) (all_agents_of ss)
found_all agents [] = refl
found_all agents (s ∷ ss) =
    ap (option_or (absent_agent agents s.agent s.action)) (found_all agents ss) ∙ sym (find-append (λ h. not (nat_lt h agents)) (agents_of s.agent s.action) (all_agents_of ss))

pub sends_by : (agents : ℕ) (ss : List Sent) → alien_agent agents ss ≡ None → AllByRecursion (λ g. g < agents) (all_agents_of ss)
sends_by agents ss none =
    all_map (λ g. nat_lt g agents ≡ true) (λ g. g < agents) (λ g here. ltb-true g agents here) (all_agents_of ss)
    (found_none (λ g. nat_lt g agents) (all_agents_of ss) (sym (found_all agents ss) ∙ mapped_none (λ g. Foreign (aliens.Agent g)) (first_absent agents ss) none))

pub by_sends : (agents : ℕ) (ss : List Sent) → AllByRecursion (λ g. g < agents) (all_agents_of ss) → alien_agent agents ss ≡ None
by_sends agents ss here =
    ap (option_map (λ g. Foreign (aliens.Agent g)))
    (found_all agents ss ∙ none_found (λ g. nat_lt g agents) (all_agents_of ss) (all_map (λ g. g < agents) (λ g. nat_lt g agents ≡ true) (λ g below. lt-ltb g agents below) (all_agents_of ss) here))

pub read_by : (at point : ℕ) → alien_point at point ≡ None → point < at
read_by at point none = ltb-true point at (if_none (nat_lt point at) (Foreign (aliens.Point point)) none)

pub by_read : (at point : ℕ) → point < at → alien_point at point ≡ None
by_read at point before = ap (λ b. cond b None (Some (Foreign (aliens.Point point)))) (lt-ltb point at before)

-- ---- the tally

count_is : (args : List Edn) → is_count args ≡ true → (n : ℕ) × (args ≡ int (pos n) ∷ [])
count_is (int (pos n) ∷ []) is = (n, refl)
count_is args is = absurd cc

pub counts_by : (op : Op) → fits_tally op ≡ true → Counts op
counts_by (Set w) is = absurd cc
counts_by (Alter code args) is = absurd cc
counts_by (Commute code args) is = by (code == 1) refl (code == 2) refl is where
  of_one : (b : Bool) → (b || false) ≡ true → b ≡ true
  of_one true e = refl
  of_one false e = absurd cc

  by : (one : Bool) → (code == 1) ≡ one → (two : Bool) → (code == 2) ≡ two → ((one && is_count args) || (two && is_count args)) ≡ true → Counts (Commute code args)
  by true e true f both = (inl (eqb-true code 1 e), count_is args (either_way (is_count args) both)) where
    either_way : (b : Bool) → (b || b) ≡ true → b ≡ true
    either_way true e = refl
    either_way false e = absurd cc
  by true e false f both = (inl (eqb-true code 1 e), count_is args (of_one (is_count args) both))
  by false e true f both = (inr (eqb-true code 2 f), count_is args both)
  by false e false f both = absurd cc
counts_by Ensure is = tt

pub by_counts : (op : Op) → Counts op → fits_tally op ≡ true
by_counts (Set w) is = absurd is
by_counts (Alter code args) is = absurd is
by_counts (Commute code args) (inl one, (n, are)) = ap (λ b. b || ((code == 2) && is_count args)) (and_from (code == 1) (is_count args) (eq-eqb code 1 one) (ap is_count are))
by_counts (Commute code args) (inr two, (n, are)) = or_true ((code == 1) && is_count args) ((code == 2) && is_count args) (and_from (code == 2) (is_count args) (eq-eqb code 2 two) (ap is_count are)) where
  or_true : (a b : Bool) → b ≡ true → (a || b) ≡ true
  or_true true b e = refl
  or_true false b e = e
by_counts Ensure is = refl

pub unless : (b c : Bool) → b ≡ true → (not b || c) ≡ true → c ≡ true
unless true c is fits = fits
unless false c is fits = absurd cc

pub fits_one : (tally : Option ℕ) (r : ℕ) (op : Op) → (not (is_tally tally r) || fits_tally op) ≡ true → tally ≡ Some r → Counts op
fits_one None r op fits is = absurd cc
fits_one (Some t) r op fits is =
    let same : t ≡ r = cc in
    counts_by op (unless (t == r) (fits_tally op) (eq-eqb t r same) fits)

pub one_fits : (tally : Option ℕ) (r : ℕ) (op : Op) → (tally ≡ Some r → Counts op) → (not (is_tally tally r) || fits_tally op) ≡ true
one_fits None r op counts = refl
one_fits (Some t) r op counts = by (t == r) refl where
  by : (b : Bool) → (t == r) ≡ b → (not b || fits_tally op) ≡ true
  by true here = by_counts op (counts (ap Some (eqb-true t r here)))
  by false other = refl

pub tally_by : (tally : Option ℕ) (ds : List Done) → alien_tally tally ds ≡ None → AllByRecursion (λ d. tally ≡ Some d.r → Counts d.op) ds
tally_by tally ds none =
    all_map (λ (d : Done). (not (is_tally tally d.r) || fits_tally d.op) ≡ true) (λ (d : Done). tally ≡ Some d.r → Counts d.op) (λ d fits. fits_one tally d.r d.op fits) ds
    (each_passes (λ (d : Done). not (is_tally tally d.r) || fits_tally d.op) ds (if_none (fit_tally tally ds) (Foreign aliens.Tally) none))

pub by_tally : (tally : Option ℕ) (ds : List Done) → AllByRecursion (λ d. tally ≡ Some d.r → Counts d.op) ds → alien_tally tally ds ≡ None
by_tally tally ds counts =
    ap (λ b. cond b None (Some (Foreign aliens.Tally)))
    (all_pass (λ (d : Done). not (is_tally tally d.r) || fits_tally d.op) ds (all_map (λ (d : Done). tally ≡ Some d.r → Counts d.op) (λ (d : Done). (not (is_tally tally d.r) || fits_tally d.op) ≡ true) (λ d is. one_fits tally d.r d.op is) ds counts))

-- ---- the table

codes_known : (knows : ℕ → Bool) (ds : List Done) → AllByRecursion (λ code. knows code ≡ true) (commuted_codes ds) → AllByRecursion (λ d. HasCommuted knows d.op) ds
codes_known knows [] all = tt
codes_known knows (d ∷ ds) all = by d.op all (codes_known knows ds) where
  by : (op : Op) → AllByRecursion (λ code. knows code ≡ true) (commuted_code op ++ commuted_codes ds) → (AllByRecursion (λ code. knows code ≡ true) (commuted_codes ds) → AllByRecursion (λ (x : Done). HasCommuted knows x.op) ds)
      → HasCommuted knows op × AllByRecursion (λ (x : Done). HasCommuted knows x.op) ds
  by (Set w) all rest = (tt, rest all)
  by (Alter code args) all rest = (tt, rest all)
  by (Commute code args) all rest = (all.0, rest all.1)
  by Ensure all rest = (tt, rest all)

known_codes : (knows : ℕ → Bool) (ds : List Done) → AllByRecursion (λ d. HasCommuted knows d.op) ds → AllByRecursion (λ code. knows code ≡ true) (commuted_codes ds)
known_codes knows [] all = tt
known_codes knows (d ∷ ds) all = by d.op all.0 (known_codes knows ds all.1) where
  by : (op : Op) → HasCommuted knows op → AllByRecursion (λ code. knows code ≡ true) (commuted_codes ds) → AllByRecursion (λ code. knows code ≡ true) (commuted_code op ++ commuted_codes ds)
  by (Set w) has rest = rest
  by (Alter code args) has rest = rest
  by (Commute code args) has rest = (has, rest)
  by Ensure has rest = rest

pub funs_by : (knows : ℕ → Bool) (ds : List Done) → lacking knows ds ≡ None → AllByRecursion (λ d. HasCommuted knows d.op) ds
funs_by knows ds none = codes_known knows ds (found_none knows (commuted_codes ds) (mapped_none NoSuchFun (missing knows (commuted_codes ds)) none))

pub by_funs : (knows : ℕ → Bool) (ds : List Done) → AllByRecursion (λ d. HasCommuted knows d.op) ds → lacking knows ds ≡ None
by_funs knows ds all = ap (option_map NoSuchFun) (none_found knows (commuted_codes ds) (known_codes knows ds all))

pub rule_is : (guards : List Guard) (n : ℕ) (rule : Rule) → HasRule guards n rule → rule_at guards n ≡ Some rule
rule_is guards n rule has = ap rule_if_here has.1 ∙ has.2

pub has_rule : (guards : List Guard) (n : ℕ) (rule : Rule) → rule_at guards n ≡ Some rule → HasRule guards n rule
has_rule guards n rule is = by (slice_get guards n) refl is where
  by : (there : Option Guard) → slice_get guards n ≡ there → rule_if_here there ≡ Some rule → HasRule guards n rule
  by None here is = absurd cc
  by (Some guard) here is = (guard, here, is)

pub code_known : (b : Bool) (code : ℕ) → cond b None (Some code) ≡ None → b ≡ true
code_known true code none = refl
code_known false code none = absurd cc

pub pred_by : (knows : ℕ → Bool) (guards : List Guard) (d : Done) → unknown_at knows guards d ≡ None → Changes d.op → KnowsRuleOf knows guards d.r
pred_by knows guards d none changes rule has =
    let needed : needed_rule guards d ≡ Some rule = ap (λ b. cond b None (rule_at guards d.r)) (by_changes d.op changes) ∙ rule_is guards d.r rule has in
    code_known (knows rule.code) rule.code (ap (unknown knows) (sym needed) ∙ mapped_none NoSuchFun (unknown knows (needed_rule guards d)) none)

by_pred : (knows : ℕ → Bool) (guards : List Guard) (d : Done) → (Changes d.op → KnowsRuleOf knows guards d.r) → unknown_at knows guards d ≡ None
by_pred knows guards d has = ap (option_map NoSuchFun) (by (is_ensure d.op) refl (rule_at guards d.r) refl) where
  by : (b : Bool) → is_ensure d.op ≡ b → (rule : Option Rule) → rule_at guards d.r ≡ rule → unknown knows (cond b None rule) ≡ None
  by true ensures rule is = refl
  by false changes None is = refl
  by false changes (Some rule) is = ap (λ b. cond b None (Some rule.code)) (has (changes_by d.op changes) rule (has_rule guards d.r rule is))

each_pred : (knows : ℕ → Bool) (guards : List Guard) (ds : List Done) → lacking_rule knows guards ds ≡ None → AllByRecursion (λ (d : Done). Changes d.op → KnowsRuleOf knows guards d.r) ds
each_pred knows guards [] none = tt
each_pred knows guards (d ∷ ds) none =
    let parts = none_of (unknown_at knows guards d) (lacking_rule knows guards ds) none in
    (pred_by knows guards d parts.0, each_pred knows guards ds parts.1)

pred_each : (knows : ℕ → Bool) (guards : List Guard) (ds : List Done) → AllByRecursion (λ (d : Done). Changes d.op → KnowsRuleOf knows guards d.r) ds → lacking_rule knows guards ds ≡ None
pred_each knows guards [] all = refl
pred_each knows guards (d ∷ ds) all = none_or (unknown_at knows guards d) (lacking_rule knows guards ds) (by_pred knows guards d all.0) (pred_each knows guards ds all.1)

pub preds_by : (knows : ℕ → Bool) (guards : List Guard) (ds : List Done) → lacking_rule knows guards ds ≡ None → (r : ℕ) → IsChanged ds r → KnowsRuleOf knows guards r
preds_by knows guards ds none = each_any (λ (d : Done). d.r) (λ (d : Done). Changes d.op) (KnowsRuleOf knows guards) ds (each_pred knows guards ds none)

pub by_preds : (knows : ℕ → Bool) (guards : List Guard) (ds : List Done) → ((r : ℕ) → IsChanged ds r → KnowsRuleOf knows guards r) → lacking_rule knows guards ds ≡ None
by_preds knows guards ds all = pred_each knows guards ds (any_each (λ (d : Done). d.r) (λ (d : Done). Changes d.op) (KnowsRuleOf knows guards) ds all)

-- ---- protected refs

pub here_by : (values : List Edn) (ds : List Done) → AllByRecursion (λ d. d.r < length values) ds → (r : ℕ) → IsProtected ds r → r < length values
here_by values ds here r protected =
    each_any (λ (d : Done). d.r) (λ (d : Done). Protects d.op) (λ n. n < length values) ds (all_map (λ (d : Done). d.r < length values) (λ (d : Done). Protects d.op → d.r < length values) (λ d below protects. below) ds here) r protected

pub last_by : (lasts : List ℕ) (point r : ℕ) → changed_after lasts point r ≡ false → (last : ℕ) → slice_get lasts r ≡ Some last → last ≤ point
last_by lasts point r unchanged last is =
    let at : changed_at lasts r ≡ last = get_or_from_slice_get lasts r last 0 is in
    subst (λ n. n ≤ point) at (ltb-false point (changed_at lasts r) unchanged)

pub by_last : (lasts : List ℕ) (point r : ℕ) → ((last : ℕ) → slice_get lasts r ≡ Some last → last ≤ point) → changed_after lasts point r ≡ false
by_last lasts point r all = by (slice_get lasts r) refl where
  by : (there : Option ℕ) → slice_get lasts r ≡ there → changed_after lasts point r ≡ false
  by None is =
      let at : changed_at lasts r ≡ 0 = sym (unwrap_or-slice_get lasts r 0) ∙ rw is refl in
      le-ltb point (changed_at lasts r) (omega (arith, at))
  by (Some last) is =
      let at : changed_at lasts r ≡ last = get_or_from_slice_get lasts r last 0 is in
      let before = all last is in
      le-ltb point (changed_at lasts r) (omega (arith, at, before))

-- What holds of no protected ref that is here: the test finds none.
none_protected : (values : List Edn) (ds : List Done) (holds : ℕ → Bool) → first_protected values ds holds ≡ None → (r : ℕ) → r < length values → IsProtected ds r → holds r ≡ false
none_protected values ds holds none r below protected =
    changed_by_protected (is_protected ds r) (holds r) (is_protected_by ds r protected)
    (range_none (λ q. is_protected ds q && holds q) (length values) 0 r none (omega arith) (omega (arith, below)))

protected_none : (values : List Edn) (ds : List Done) (holds : ℕ → Bool) → ((r : ℕ) → r < length values → IsProtected ds r → holds r ≡ false) → first_protected values ds holds ≡ None
protected_none values ds holds all = none_range (λ q. is_protected ds q && holds q) (length values) 0 (λ r after below. by r (omega (arith, below)) (is_protected ds r) refl) where
  by : (r : ℕ) → r < length values → (b : Bool) → is_protected ds r ≡ b → (b && holds r) ≡ false
  by r below true is = all r below (protected_is ds r is)
  by r below false is = refl

pub unchanged_by : (store : RefsSeen) (tx : TxSeen) → AllByRecursion (λ d. d.r < length store.values) tx.dones → conflict store tx ≡ None → (r last : ℕ) → IsProtected tx.dones r → slice_get store.lasts r ≡ Some last → last ≤ tx.read_point
unchanged_by store tx here none r last protected is =
    last_by store.lasts tx.read_point r
    (none_protected store.values tx.dones (changed_after store.lasts tx.read_point) (mapped_none (conflict_on store.lasts tx.read_point) (first_protected store.values tx.dones (changed_after store.lasts tx.read_point)) none) r (here_by store.values tx.dones here r protected) protected)
    last is

pub by_unchanged : (store : RefsSeen) (tx : TxSeen) → ((r last : ℕ) → IsProtected tx.dones r → slice_get store.lasts r ≡ Some last → last ≤ tx.read_point) → conflict store tx ≡ None
by_unchanged store tx all =
    ap (option_map (conflict_on store.lasts tx.read_point))
    (protected_none store.values tx.dones (changed_after store.lasts tx.read_point) (λ r below protected. by_last store.lasts tx.read_point r (λ last is. all r last protected is)))

pub same_by : (began now : Option Edn) (v : Edn) → now ≡ Some v → differs began now ≡ false → now ≡ began
same_by began None v is same = absurd cc
same_by None (Some w) v is same = absurd cc
same_by (Some w) (Some x) v is same = ap Some (sym (same_value w x (not-false _ same)))

pub there : (values : List Edn) (r : ℕ) → r < length values → (v : Edn) × (slice_get values r ≡ Some v)
there [] r below = absurd (omega (arith, below))
there (x ∷ xs) zero below = (x, refl)
there (x ∷ xs) (suc r) below = there xs r (omega (arith, below))

pub values_by : (values : List Edn) (tx : TxSeen) → AllByRecursion (λ d. d.r < length values) tx.dones → alien_value values tx ≡ None → (r : ℕ) → IsProtected tx.dones r → slice_get values r ≡ slice_get tx.began r
values_by values tx here none r protected =
    let below = here_by values tx.dones here r protected in
    let found = there values r below in
    same_by (slice_get tx.began r) (slice_get values r) found.0 found.1
    (none_protected values tx.dones (differs_at values tx.began) (mapped_none (λ r. Foreign (aliens.Value r)) (first_protected values tx.dones (differs_at values tx.began)) none) r below protected)

pub by_values : (values : List Edn) (tx : TxSeen) → ((r : ℕ) → IsProtected tx.dones r → slice_get values r ≡ slice_get tx.began r) → alien_value values tx ≡ None
by_values values tx all =
    ap (option_map (λ r. Foreign (aliens.Value r)))
    (protected_none values tx.dones (differs_at values tx.began) (λ r below protected. ap (λ v. differs v (slice_get values r)) (sym (all r protected)) ∙ differs_itself (slice_get values r)))

-- ---- the points

pub by_within : (at : ℕ) → at ≤ 2 ^ 62 → past_points at ≡ None
by_within at within = ap (λ b. cond b (Some PointLimit) None) (le-ltb (2 ^ 62) at within)

-- ---- operations over values

kept_by : (all : List Done) (d : Done) (new : Edn) → (IsProtected all d.r → new ≡ d.answer) → (not (is_protected all d.r) || is_kept d new) ≡ true
kept_by all d new kept = by (is_protected all d.r) refl where
  by : (b : Bool) → is_protected all d.r ≡ b → (not b || is_kept d new) ≡ true
  by true protected = ap (is_kept d) (kept (protected_is all d.r protected)) ∙ is_kept-itself d
  by false free = refl

by_kept : (all : List Done) (d : Done) (new : Edn) → (not (is_protected all d.r) || is_kept d new) ≡ true → IsProtected all d.r → new ≡ d.answer
by_kept all d new kept protected = same_value new d.answer (unless (is_protected all d.r) (is_kept d new) (is_protected_by all d.r protected) kept)

pub place_kept : (free : Bool) (point : ℕ) (d : Done) (values : List Edn) (new : Edn) → (free || is_kept d new) ≡ true → after_place free point d values (Ok new) ≡ Ok (slice_set values d.r new)
place_kept free point d values new kept = rw kept refl

pub made_one : (means : Means) (all : List Done) (point : ℕ) (d : Done) (values : List Edn) (old new : Edn) → slice_get values d.r ≡ Some old → place means d.op old ≡ Ok new → (IsProtected all d.r → new ≡ d.answer) → after_done means all point d values ≡ Ok (slice_set values d.r new)
made_one means all point d values old new there gives kept =
    let free = not (is_protected all d.r) in
    ap (after_found means free point d values) there ∙ (ap (after_place free point d values) gives ∙ place_kept free point d values new (kept_by all d new kept))

pub leads_after : (means : Means) (all : List Done) (point : ℕ) (ds : List Done) (values after : List Edn) → Leads means all ds values after → after_dones means all point ds (Ok values) ≡ Ok after
leads_after means all point [] values after leads = ap Ok leads
leads_after means all point (d ∷ ds) values after leads =
    ap (after_dones means all point ds) (made_one means all point d values leads.0 leads.1 leads.2 (makes_place means d.op leads.0 leads.1 leads.3) leads.4)
    ∙ leads_after means all point ds (slice_set values d.r leads.1) after leads.5

pub leads_refused : (means : Means) (all : List Done) (ds : List Done) (values after : List Edn) → Leads means all ds values after → refused means ds values ≡ None
leads_refused means all [] values after leads = refl
leads_refused means all (d ∷ ds) values after leads =
    let later : Edn → Option CommitFault = λ v. refused means ds (slice_set values d.r v) in
    ap (λ there. refused_at d.r (option_map (place means d.op) there) later) leads.2
    ∙ (ap (λ gives. refused_at d.r (Some gives) later) (makes_place means d.op leads.0 leads.1 leads.3)
    ∙ leads_refused means all ds (slice_set values d.r leads.1) after leads.5)

-- one operation that is applied
abbrev pub Applied : Means → Bool → Done → List Edn → List Edn → Option Edn → Type 0
Applied means free d values next there = (old new : Edn) × (there ≡ Some old) × (place means d.op old ≡ Ok new) × ((free || is_kept d new) ≡ true) × (next ≡ slice_set values d.r new)

if_kept : (b : Bool) (values next : List Edn) (fault : AuditFault) → cond b (Ok values) (Err fault) ≡ Ok next → (b ≡ true) × (next ≡ values)
if_kept true values next fault is = (refl, cc)
if_kept false values next fault is = absurd cc

pub applied : (means : Means) (free : Bool) (point : ℕ) (d : Done) (values next : List Edn) (there : Option Edn) → after_found means free point d values there ≡ Ok next → Applied means free d values next there
applied means free point d values next None is = absurd cc
applied means free point d values next (Some old) is = by (place means d.op old) refl is where
  by : (gives : Result Edn Cause) → place means d.op old ≡ gives → after_place free point d values gives ≡ Ok next → Applied means free d values next (Some old)
  by (Err cause) e is = absurd cc
  by (Ok new) e is =
      let kept = if_kept (free || is_kept d new) (slice_set values d.r new) next _ is in
      (old, new, refl, e, kept.0, kept.1)

pub after_leads : (means : Means) (all : List Done) (point : ℕ) (ds : List Done) (values after : List Edn) → after_dones means all point ds (Ok values) ≡ Ok after → Leads means all ds values after
after_leads means all point [] values after is = cc
after_leads means all point (d ∷ ds) values after is =
    let first = after_dones-Ok means all point ds (after_done means all point d values) after is in
    let one = applied means (not (is_protected all d.r)) point d values first.0 (slice_get values d.r) first.1 in
    let rest : after_dones means all point ds (Ok (slice_set values d.r one.1)) ≡ Ok after = ap (λ l. after_dones means all point ds (Ok l)) (sym one.5) ∙ (ap (after_dones means all point ds) (sym first.1) ∙ is) in
    (one.0, one.1, one.2, place_makes means d.op one.0 one.1 one.3, by_kept all d one.1 one.4, after_leads means all point ds (slice_set values d.r one.1) after rest)

-- ---- what doesn't refuse leads on

module _ (means : Means) (began : List Edn) (all : List Done) (point : ℕ) where
  answered : (former : List Done) (d : Done) (values : List Edn) (old new : Edn) → Agrees means began all point former values → value_after means began (former ++ d ∷ []) d.r ≡ Some d.answer → slice_get values d.r ≡ Some old → place means d.op old ≡ Ok new → IsProtected all d.r → new ≡ d.answer
  answered former d values old new so_far answers there gives protected =
      let same : Some new ≡ Some d.answer =
      ap given (sym gives)
      ∙ (ap (and_place means d.op) (sym there ∙ so_far d.r (is_protected_by all d.r protected))
      ∙ (sym (value_after-here means began former d d.r (eq-eqb d.r d.r refl)) ∙ answers)) in
      cc

  one_placed : (d : Done) (ds : List Done) (values : List Edn) (old : Edn) → slice_get values d.r ≡ Some old → refused means (d ∷ ds) values ≡ None → (new : Edn) × (place means d.op old ≡ Ok new) × (refused means ds (slice_set values d.r new) ≡ None)
  one_placed d ds values old there none = by (place means d.op old) refl (ap (λ t. refused_at d.r (option_map (place means d.op) t) (λ v. refused means ds (slice_set values d.r v))) (sym there) ∙ none) where
    by : (gives : Result Edn Cause) → place means d.op old ≡ gives → refused_at d.r (Some gives) (λ v. refused means ds (slice_set values d.r v)) ≡ None → (new : Edn) × (place means d.op old ≡ Ok new) × (refused means ds (slice_set values d.r new) ≡ None)
    by (Ok new) e none = (new, e, none)
    by (Err cause) e none = absurd cc

  refused_leads : (former ds : List Done) (values : List Edn) → Agrees means began all point former values → AreAnswers means began former ds → AllByRecursion (λ d. d.r < length values) ds → refused means ds values ≡ None → (after : List Edn) × Leads means all ds values after
  refused_leads former [] values so_far are here none = (values, refl)
  refused_leads former (d ∷ ds) values so_far are here none =
      let old = there values d.r here.0 in
      let one = one_placed d ds values old.0 old.1 none in
      let kept = answered former d values old.0 one.0 so_far are.0 old.1 one.1 in
      let next = agrees_more means began all point former d values (slice_set values d.r one.0) so_far (made_one means all point d values old.0 one.0 old.1 one.1 kept) in
      let still = all_map (λ (x : Done). x.r < length values) (λ (x : Done). x.r < length (slice_set values d.r one.0)) (λ x below. subst (λ n. x.r < n) (sym (length-set values d.r one.0)) below) ds here.1 in
      let rest = refused_leads (former ++ d ∷ []) ds (slice_set values d.r one.0) next are.1 still one.2 in
      (rest.0, (old.0, one.0, old.1, place_makes means d.op old.0 one.0 one.1, kept, rest.1))

-- ---- the rules

insert_parts : (P : ℕ → Type 0) (rs : List ℕ) (k : ℕ) → AllByRecursion P (insert_key nat_cmp rs k) → AllByRecursion P rs × P k
insert_parts P [] k all = (tt, all.0)
insert_parts P (x ∷ xs) k all = by (nat_cmp k x) refl all (insert_parts P xs k) where
  by : (o : Ordering) → nat_cmp k x ≡ o → AllByRecursion P (match_ordering o (k ∷ x ∷ xs) (x ∷ xs) (x ∷ insert_key nat_cmp xs k)) → (AllByRecursion P (insert_key nat_cmp xs k) → AllByRecursion P xs × P k) → AllByRecursion P (x ∷ xs) × P k
  by Less e all later = (all.1, all.0)
  by Equal e all later = (all, subst P (sym (nat_cmp-IsAntisymmetric k x e)) all.0)
  by Greater e all later =
      let rest = later all.1 in
      ((all.0, rest.0), rest.1)

pub insert_from : (P : ℕ → Type 0) (rs : List ℕ) (k : ℕ) → AllByRecursion P rs → P k → AllByRecursion P (insert_key nat_cmp rs k)
insert_from P [] k all here = (here, tt)
insert_from P (x ∷ xs) k all here = by (nat_cmp k x) (insert_from P xs k all.1 here) where
  by : (o : Ordering) → AllByRecursion P (insert_key nat_cmp xs k) → AllByRecursion P (match_ordering o (k ∷ x ∷ xs) (x ∷ xs) (x ∷ insert_key nat_cmp xs k))
  by Less later = (here, all)
  by Equal later = all
  by Greater later = (all.0, later)

pub each_touched : (P : ℕ → Type 0) (rs : List ℕ) (ds : List Done) → AllByRecursion P (touched_from rs ds) → AllByRecursion P rs × AllByRecursion (λ (d : Done). Changes d.op → P d.r) ds
each_touched P rs [] all = (all, tt)
each_touched P rs (d ∷ ds) all = by (is_ensure d.op) refl all (λ more. each_touched P more ds) where
  by : (b : Bool) → is_ensure d.op ≡ b → AllByRecursion P (touched_from (cond b rs (insert_key nat_cmp rs d.r)) ds) → ((more : List ℕ) → AllByRecursion P (touched_from more ds) → AllByRecursion P more × AllByRecursion (λ (x : Done). Changes x.op → P x.r) ds)
      → AllByRecursion P rs × AllByRecursion (λ (x : Done). Changes x.op → P x.r) (d ∷ ds)
  by true ensures all later =
      let rest = later rs all in
      let none : Changes d.op → P d.r = λ changes. let not_so = by_changes d.op changes in absurd cc in
      (rest.0, (none, rest.1))
  by false changes all later =
      let rest = later (insert_key nat_cmp rs d.r) all in
      let parts = insert_parts P rs d.r rest.0 in
      (parts.0, ((λ c. parts.1), rest.1))

pub touched_each : (P : ℕ → Type 0) (rs : List ℕ) (ds : List Done) → AllByRecursion P rs → AllByRecursion (λ (d : Done). Changes d.op → P d.r) ds → AllByRecursion P (touched_from rs ds)
touched_each P rs [] all each = all
touched_each P rs (d ∷ ds) all each = by (is_ensure d.op) refl (λ more so. touched_each P more ds so each.1) where
  by : (b : Bool) → is_ensure d.op ≡ b → ((more : List ℕ) → AllByRecursion P more → AllByRecursion P (touched_from more ds)) → AllByRecursion P (touched_from (cond b rs (insert_key nat_cmp rs d.r)) ds)
  by true ensures later = later rs all
  by false changes later = later (insert_key nat_cmp rs d.r) (insert_from P rs d.r all (each.0 (changes_by d.op changes)))

pub accepts_by : (accepts : Accepts) (guards : List Guard) (values : List Edn) (r : ℕ) → is_accepted_at accepts guards values r ≡ true → (v : Edn) → slice_get values r ≡ Some v → RuleAccepts accepts guards r v
accepts_by accepts guards values r is v here rule has =
    ap (λ o. passes_if_here accepts o (Some v)) (sym (rule_is guards r rule has)) ∙ (ap (passes_if_here accepts (rule_at guards r)) (sym here) ∙ is)

pub by_accepts : (accepts : Accepts) (guards : List Guard) (values : List Edn) (r : ℕ) → ((v : Edn) → slice_get values r ≡ Some v → RuleAccepts accepts guards r v) → is_accepted_at accepts guards values r ≡ true
by_accepts accepts guards values r all = by (rule_at guards r) refl (slice_get values r) refl where
  by : (rule : Option Rule) → rule_at guards r ≡ rule → (here : Option Edn) → slice_get values r ≡ here → passes_if_here accepts rule here ≡ true
  by rule has None here = refl
  by None has (Some v) here = refl
  by (Some rule) has (Some v) here = all v here rule (has_rule guards r rule has)

-- the rule of a ref accepts its value
abbrev pub IsAcceptedAt : Accepts → List Guard → List Edn → ℕ → Type 0
IsAcceptedAt accepts guards values r = is_accepted_at accepts guards values r ≡ true

pub accepted_by : (accepts : Accepts) (guards : List Guard) (ds : List Done) (after : List Edn) → invalid accepts guards ds (Ok after) ≡ None → (r : ℕ) (v : Edn) → IsChanged ds r → slice_get after r ≡ Some v → RuleAccepts accepts guards r v
accepted_by accepts guards ds after none r v changed here =
    accepts_by accepts guards after r
    (each_any (λ (d : Done). d.r) (λ (d : Done). Changes d.op) (IsAcceptedAt accepts guards after) ds
    (each_touched (IsAcceptedAt accepts guards after) [] ds (found_none (is_accepted_at accepts guards after) (touched_refs ds) (mapped_none Invalid (first_invalid accepts guards after (touched_refs ds)) none))).1 r changed)
    v here

pub by_accepted : (accepts : Accepts) (guards : List Guard) (ds : List Done) (after : List Edn) → ((r : ℕ) (v : Edn) → IsChanged ds r → slice_get after r ≡ Some v → RuleAccepts accepts guards r v) → invalid accepts guards ds (Ok after) ≡ None
by_accepted accepts guards ds after all =
    ap (option_map Invalid)
    (none_found (is_accepted_at accepts guards after) (touched_refs ds)
    (touched_each (IsAcceptedAt accepts guards after) [] ds tt
    (any_each (λ (d : Done). d.r) (λ (d : Done). Changes d.op) (IsAcceptedAt accepts guards after) ds (λ r changed. by_accepts accepts guards after r (λ v here. all r v changed here)))))

-- ---- all together

module _ (means : Means) (accepts : Accepts) (knows : Known) (store : RefsSeen) (at agents : ℕ) (tx : TxSeen) where
  pub lead_on : IsTx means tx.began tx.dones tx.tally → AllByRecursion (λ d. d.r < length store.values) tx.dones → ((r : ℕ) → IsProtected tx.dones r → slice_get store.values r ≡ slice_get tx.began r) → refused means tx.dones store.values ≡ None → (after : List Edn) × Leads means tx.dones tx.dones store.values after
  lead_on is here same none = refused_leads means tx.began tx.dones at [] tx.dones store.values (λ r protected. same r (protected_is tx.dones r protected)) is.answered here none

module _ (means : Means) (accepts : Accepts) (knows : Known) (store : RefsSeen) (at agents most_added most_taken : ℕ) (tx : TxSeen) where
  pub can_commit : IsTx means tx.began tx.dones tx.tally → commit_refusal means accepts knows store at agents most_added most_taken tx ≡ None → CanCommit means accepts knows store at agents most_added most_taken tx
  can_commit is none =
      let a = none_of (early_refusal knows store at agents tx) _ none in
      let b = none_of (refused means tx.dones store.values) _ a.1 in
      let c = none_of (invalid accepts store.guards tx.dones (after_dones means tx.dones at tx.dones (Ok store.values))) _ b.1 in
      let k = none_of (past_points at) (full_book most_added most_taken store.tally tx.dones) c.1 in
      let within = not_full most_added most_taken store.tally tx.dones k.1 in
      let d = none_of (alien store at agents tx) _ a.0 in
      let e = none_of (alien_ref store.values tx.dones) _ d.0 in
      let f = none_of (alien_agent agents tx.sends) _ e.1 in
      let g = none_of (alien_tally store.tally tx.dones) (alien_point at tx.read_point) f.1 in
      let h = none_of (lacking knows.funs tx.dones) _ d.1 in
      let i = none_of (lacking_rule knows.preds store.guards tx.dones) _ h.1 in
      let j = none_of (conflict store tx) (alien_value store.values tx) i.1 in
      let here = refs_by store.values tx.dones e.0 in
      let same = values_by store.values tx here j.1 in
      let leads = lead_on means accepts knows store at agents tx is here same b.0 in
      let made = leads_after means tx.dones at tx.dones store.values leads.0 leads.1 in
      record {
        refs = here;
        agents_here = sends_by agents tx.sends f.0;
        tally = tally_by store.tally tx.dones g.0;
        read = read_by at tx.read_point g.1;
        funs = funs_by knows.funs tx.dones h.0;
        preds = preds_by knows.preds store.guards tx.dones i.0;
        unchanged = unchanged_by store tx here j.0;
        same = same;
        after = leads.0;
        leads = leads.1;
        rules = accepted_by accepts store.guards tx.dones leads.0 (ap (invalid accepts store.guards tx.dones) (sym made) ∙ c.0);
        within = not_past at (nat_lt (2 ^ 62) at) refl k.0;
        added = λ sum sums. (let same = sum_is Added store.tally tx.dones sum sums in omega (arith, same, within.0));
        taken = λ sum sums. (let same = sum_is Taken store.tally tx.dones sum sums in omega (arith, same, within.1));
      }

  commits : CanCommit means accepts knows store at agents most_added most_taken tx → commit_refusal means accepts knows store at agents most_added most_taken tx ≡ None
  commits can =
      let made = leads_after means tx.dones at tx.dones store.values can.after can.leads in
      let foreign = none_or (alien_ref store.values tx.dones) _ (by_refs store.values tx.dones can.refs)
      (none_or (alien_agent agents tx.sends) _ (by_sends agents tx.sends can.agents_here)
      (none_or (alien_tally store.tally tx.dones) (alien_point at tx.read_point) (by_tally store.tally tx.dones can.tally) (by_read at tx.read_point can.read))) in
      let early = none_or (alien store at agents tx) _ foreign
      (none_or (lacking knows.funs tx.dones) _ (by_funs knows.funs tx.dones can.funs)
      (none_or (lacking_rule knows.preds store.guards tx.dones) _ (by_preds knows.preds store.guards tx.dones can.preds)
      (none_or (conflict store tx) (alien_value store.values tx) (by_unchanged store tx can.unchanged) (by_values store.values tx can.same)))) in
      none_or (early_refusal knows store at agents tx) _ early
      (none_or (refused means tx.dones store.values) _ (leads_refused means tx.dones tx.dones store.values can.after can.leads)
      (none_or (invalid accepts store.guards tx.dones (after_dones means tx.dones at tx.dones (Ok store.values))) _
      (ap (invalid accepts store.guards tx.dones) made ∙ by_accepted accepts store.guards tx.dones can.after can.rules)
      (none_or (past_points at) (full_book most_added most_taken store.tally tx.dones) (by_within at can.within)
      (has_room most_added most_taken store.tally tx.dones
      (can.added (moved_by_dones Added store.tally tx.dones) (sums_to Added store.tally tx.dones can.tally))
      (can.taken (moved_by_dones Taken store.tally tx.dones) (sums_to Taken store.tally tx.dones can.tally))))))

pub commits_where_it_can : (means : Means) (accepts : Accepts) → CommitsWhereItCan means accepts
commits_where_it_can means accepts knows store at agents most_added most_taken tx is = (can_commit means accepts knows store at agents most_added most_taken tx is, commits means accepts knows store at agents most_added most_taken tx)
