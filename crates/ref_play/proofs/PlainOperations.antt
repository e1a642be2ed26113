-- What an operation in a transaction answers, in plain words.
use Rattle.std.proofs.Common.{◌≡◌, ℕ, cond, ◌<◌, ◌==◌, ◌&&◌, not, Bool, true, false, inl, inr, List, [], ◌∷◌, ◌++◌, length, Option, None, Some, Result, Ok, Err, slice_get, refl, sym, ap, subst, ◌∙◌, ◌≤◌, ◌⊎◌, nat_lt, ◌||◌}
use Rattle.std.proofs.lemmas.Bool.{and_from, and_parts, cases_lt, eq-eqb, eqb-false, eqb-true, false_from_ne_true, le-ltb, lt-ltb, ltb-false, ltb-true, ne_eqb, not-true}
use Rattle.std.proofs.lemmas.Option.{slice_get_past}
use Rattle.std.proofs.lemmas.List.{append-nil, append_assoc}
use Rattle.ref_value.specs.Edn.{Edn}
use Rattle.ref_fun.specs.Meaning.{Means}
use Rattle.ref_fun.specs.Rule.{Accepts}
use Rattle.ref_fun.specs.Actions.{absent_agent, missing_fun}
use Rattle.ref_fun.specs.declared.actions.Action.{Action}
use Rattle.ref_fun.specs.declared.rules.Rule.{Rule}
use Rattle.std.specs.List.{AllByRecursion}
use Rattle.std.specs.Option.{option_map, option_or}
use Rattle.std.proofs.Common.{◌≤◌, nat_lt}
use Rattle.ref_fun.specs.declared.faults.Cause.{Cause}
use Rattle.ref_log.specs.Replay.{codes_of, is_commute, is_set, missing, place}
use Rattle.ref_log.specs.Tally.{fits_tally, is_tally}
use Rattle.ref_log.specs.declared.operations.Done.{Done}
use Rattle.ref_log.specs.declared.operations.Op.{Op}
use Rattle.ref_log.specs.declared.operations.Op.TheVariants.{Set, Alter, Commute, Ensure}
use Rattle.ref_tx.specs.Inner.{AreAnswers, IsTx, after_ops, answer_of, called, given, has_ref, inner_value, is_commuted, ops_on, or_refusal, placed, send_refusal, told, unmet, value_after}
use Rattle.ref_tx.specs.Laws.{value_after-elsewhere}
use Rattle.ref_tx.specs.Seen.{TxSeen}
use Rattle.ref_tx.specs.declared.faults.TxFault.{TxFault}
use Rattle.ref_tx.specs.declared.faults.TxFault.TheVariants as txs
use Rattle.ref_play.specs.Plain.{Counts, Makes, agents_of, functions_of}
use Rattle.ref_play.specs.PlainTx.{AnswersSo, Calls, Commutes, HasCalled, InnerMeans, IsAllowed, IsCommuted, IsValueIn, LeadsAt, MaySet, OperationsMean, RequirementsMean, RequiresSo, SendsInTxMean, SendsSo, Sets, TxMeans}
use Rattle.ref_play.proofs.Placed.{get-below}
use Rattle.ref_play.proofs.PlainCommits.{by_counts, counts_by, fits_one, makes_place, one_fits, place_makes, there}
use Rattle.ref_play.proofs.PlainFaults.{place_refuses, refuses_place}
use Rattle.ref_play.proofs.PlainLists.{all_map, all_pass, any_found, any_pass, each_passes, first_found, found_any, found_first, found_none, none_found, some_passes}

-- ---- in-transaction values

nothing_left : (means : Means) (ops : List Op) (v : Edn) → after_ops means ops None ≡ Some v → ⊥
nothing_left means [] v is = cc
nothing_left means (op ∷ ops) v is = nothing_left means ops v is

leads_by : (means : Means) (r : ℕ) (ds : List Done) (old v : Edn) → after_ops means (ops_on r ds) (Some old) ≡ Some v → LeadsAt means r ds old v
leads_by means r [] old v is = cc
leads_by means r (d ∷ ds) old v is = by (d.r == r) refl is (leads_by means r ds) where
  one : (gives : Result Edn Cause) → place means d.op old ≡ gives → after_ops means (ops_on r ds) (given gives) ≡ Some v → ((next w : Edn) → after_ops means (ops_on r ds) (Some next) ≡ Some w → LeadsAt means r ds next w) → (next : Edn) × Makes means d.op old next × LeadsAt means r ds next v
  one (Ok next) gives is later = (next, place_makes means d.op old next gives, later next v is)
  one (Err cause) gives is later = absurd (nothing_left means (ops_on r ds) v is)

  by : (b : Bool) → (d.r == r) ≡ b → after_ops means (cond b (d.op ∷ ops_on r ds) (ops_on r ds)) (Some old) ≡ Some v → ((next w : Edn) → after_ops means (ops_on r ds) (Some next) ≡ Some w → LeadsAt means r ds next w) → LeadsAt means r (d ∷ ds) old v
  by true here is later = inl (eqb-true d.r r here, one (place means d.op old) refl is later)
  by false elsewhere is later = inr (eqb-false d.r r elsewhere, later old v is)

by_leads : (means : Means) (r : ℕ) (ds : List Done) (old v : Edn) → LeadsAt means r ds old v → after_ops means (ops_on r ds) (Some old) ≡ Some v
by_leads means r [] old v is = ap Some is
by_leads means r (d ∷ ds) old v (inl (same, (next, makes, later))) =
    ap (λ b. after_ops means (cond b (d.op ∷ ops_on r ds) (ops_on r ds)) (Some old)) (eq-eqb d.r r same)
    ∙ (ap (λ gives. after_ops means (ops_on r ds) (given gives)) (makes_place means d.op old next makes) ∙ by_leads means r ds next v later)
by_leads means r (d ∷ ds) old v (inr (other, later)) =
    ap (λ b. after_ops means (cond b (d.op ∷ ops_on r ds) (ops_on r ds)) (Some old)) (ne_eqb d.r r other) ∙ by_leads means r ds old v later

after_by : (means : Means) (began : List Edn) (ds : List Done) (r : ℕ) (v : Edn) → value_after means began ds r ≡ Some v → (old : Edn) × (slice_get began r ≡ Some old) × LeadsAt means r ds old v
after_by means began ds r v is = by (slice_get began r) refl is where
  by : (found : Option Edn) → slice_get began r ≡ found → after_ops means (ops_on r ds) found ≡ Some v → (old : Edn) × (slice_get began r ≡ Some old) × LeadsAt means r ds old v
  by None here is = absurd (nothing_left means (ops_on r ds) v is)
  by (Some old) here is = (old, here, leads_by means r ds old v is)

by_after : (means : Means) (began : List Edn) (ds : List Done) (r : ℕ) (v : Edn) → (old : Edn) × (slice_get began r ≡ Some old) × LeadsAt means r ds old v → value_after means began ds r ≡ Some v
by_after means began ds r v (old, here, leads) = ap (after_ops means (ops_on r ds)) here ∙ by_leads means r ds old v leads

value_by : (means : Means) (tx : TxSeen) (r : ℕ) (v : Edn) → inner_value means tx r ≡ Some v → IsValueIn means tx r v
value_by means tx r v is = after_by means tx.began tx.dones r v is

by_value : (means : Means) (tx : TxSeen) (r : ℕ) (v : Edn) → IsValueIn means tx r v → inner_value means tx r ≡ Some v
by_value means tx r v is = by_after means tx.began tx.dones r v is

pub inner_means : (means : Means) → InnerMeans means
inner_means means tx r v = (value_by means tx r v, by_value means tx r v)

-- ---- what a transaction is

answer_at : (means : Means) (began : List Edn) (former before after : List Done) (d : Done) → AreAnswers means began former (before ++ d ∷ after) → value_after means began (former ++ (before ++ d ∷ [])) d.r ≡ Some d.answer
answer_at means began former [] after d are = are.0
answer_at means began former (b ∷ before) after d are =
    ap (λ l. value_after means began l d.r) (sym (append_assoc former (b ∷ []) (before ++ d ∷ []))) ∙ answer_at means began (former ++ b ∷ []) before after d are.1

at_answers : (means : Means) (began : List Edn) (former ds : List Done) → ((before after : List Done) (d : Done) → ds ≡ before ++ d ∷ after → value_after means began (former ++ (before ++ d ∷ [])) d.r ≡ Some d.answer) → AreAnswers means began former ds
at_answers means began former [] all = tt
at_answers means began former (x ∷ xs) all = (
  all [] xs x refl,
  at_answers means began (former ++ x ∷ []) xs (λ before after d is.
      ap (λ l. value_after means began l d.r) (append_assoc former (x ∷ []) (before ++ d ∷ [])) ∙ all (x ∷ before) after d (ap (λ l. x ∷ l) is)),
)

pub tx_means : (means : Means) → TxMeans means
tx_means means began dones tally = (
  λ (is : IsTx means began dones tally). (
    λ before after d split. after_by means began (before ++ d ∷ []) d.r d.answer (answer_at means began [] before after d (subst (AreAnswers means began []) split is.answered)),
    all_map (λ (d : Done). (not (is_tally tally d.r) || fits_tally d.op) ≡ true) (λ (d : Done). tally ≡ Some d.r → Counts d.op) (λ d fits. fits_one tally d.r d.op fits) dones
        (each_passes (λ (d : Done). not (is_tally tally d.r) || fits_tally d.op) dones is.tallied),
  ),
  λ both. record {
    answered = at_answers means began [] dones (λ before after d split. by_after means began (before ++ d ∷ []) d.r d.answer (both.0 before after d split));
    tallied = all_pass (λ (d : Done). not (is_tally tally d.r) || fits_tally d.op) dones
        (all_map (λ (d : Done). tally ≡ Some d.r → Counts d.op) (λ (d : Done). (not (is_tally tally d.r) || fits_tally d.op) ≡ true) (λ d counts. one_fits tally d.r d.op counts) dones both.1);
  },
)

-- A ref that was there at the beginning has an in-transaction value.
abbrev HasValue : Means → List Edn → List Done → ℕ → Type 0
HasValue means began ds r = (v : Edn) × (value_after means began ds r ≡ Some v)

value_there : (means : Means) (began : List Edn) (former ds : List Done) (r : ℕ) → AreAnswers means began former ds → HasValue means began former r → HasValue means began (former ++ ds) r
value_there means began former [] r are so_far = subst (λ l. HasValue means began l r) (sym (append-nil former)) so_far
value_there means began former (d ∷ ds) r are so_far = subst (λ l. HasValue means began l r) (append_assoc former (d ∷ []) ds) (value_there means began (former ++ d ∷ []) ds r are.1 (by (d.r == r) refl)) where
  by : (b : Bool) → (d.r == r) ≡ b → HasValue means began (former ++ d ∷ []) r
  by true here = subst (λ n. HasValue means began (former ++ d ∷ []) n) (eqb-true d.r r here) (d.answer, are.0)
  by false elsewhere = (so_far.0, value_after-elsewhere means began former d r elsewhere ∙ so_far.1)

inner_there : (means : Means) (tx : TxSeen) (r : ℕ) → IsTx means tx.began tx.dones tx.tally → r < length tx.began → (v : Edn) × (inner_value means tx r ≡ Some v)
inner_there means tx r is below = value_there means tx.began [] tx.dones r is.answered (there tx.began r below)

-- ---- what is asked

sets_by : (op : Op) → is_set op ≡ true → Sets op
sets_by (Set w) is = tt
sets_by (Alter code args) is = tt
sets_by (Commute code args) is = absurd cc
sets_by Ensure is = absurd cc

by_sets : (op : Op) → Sets op → is_set op ≡ true
by_sets (Set w) is = refl
by_sets (Alter code args) is = refl
by_sets (Commute code args) is = absurd is
by_sets Ensure is = absurd is

commutes_by : (op : Op) → is_commute op ≡ true → Commutes op
commutes_by (Set w) is = absurd cc
commutes_by (Alter code args) is = absurd cc
commutes_by (Commute code args) is = tt
commutes_by Ensure is = absurd cc

by_commutes : (op : Op) → Commutes op → is_commute op ≡ true
by_commutes (Set w) is = absurd is
by_commutes (Alter code args) is = absurd is
by_commutes (Commute code args) is = refl
by_commutes Ensure is = absurd is

commuted_by : (tx : TxSeen) (r : ℕ) → is_commuted tx.dones r ≡ true → IsCommuted tx r
commuted_by tx r = some_passes (λ (d : Done). d.r == r && is_commute d.op) (λ (d : Done). (d.r ≡ r) × Commutes d.op) one tx.dones where
  one : (d : Done) → (d.r == r && is_commute d.op) ≡ true → (d.r ≡ r) × Commutes d.op
  one d is =
      let parts = and_parts (d.r == r) (is_commute d.op) is in
      (eqb-true d.r r parts.0, commutes_by d.op parts.1)

by_commuted : (tx : TxSeen) (r : ℕ) → IsCommuted tx r → is_commuted tx.dones r ≡ true
by_commuted tx r = any_pass (λ (d : Done). d.r == r && is_commute d.op) (λ (d : Done). (d.r ≡ r) × Commutes d.op) one tx.dones where
  one : (d : Done) → (d.r ≡ r) × Commutes d.op → (d.r == r && is_commute d.op) ≡ true
  one d is = and_from (d.r == r) (is_commute d.op) (eq-eqb d.r r is.0) (by_commutes d.op is.1)

late_set : (tx : TxSeen) (r : ℕ) (op : Op) → (is_set op && is_commuted tx.dones r) ≡ true → Sets op × IsCommuted tx r
late_set tx r op is =
    let parts = and_parts (is_set op) (is_commuted tx.dones r) is in
    (sets_by op parts.0, commuted_by tx r parts.1)

set_late : (tx : TxSeen) (r : ℕ) (op : Op) → Sets op → IsCommuted tx r → (is_set op && is_commuted tx.dones r) ≡ true
set_late tx r op sets commuted = and_from (is_set op) (is_commuted tx.dones r) (by_sets op sets) (by_commuted tx r commuted)

may_set : (tx : TxSeen) (r : ℕ) (op : Op) → (is_set op && is_commuted tx.dones r) ≡ false → MaySet tx r op
may_set tx r op never sets commuted = let yes = set_late tx r op sets commuted in cc

set_may : (tx : TxSeen) (r : ℕ) (op : Op) → MaySet tx r op → (is_set op && is_commuted tx.dones r) ≡ false
set_may tx r op may = false_from_ne_true (is_set op && is_commuted tx.dones r) (λ is. let parts = late_set tx r op is in may parts.0 parts.1)

tally_is : (tally : Option ℕ) (r : ℕ) → is_tally tally r ≡ true → tally ≡ Some r
tally_is None r is = absurd cc
tally_is (Some t) r is = ap Some (eqb-true t r is)

is_tally_by : (tally : Option ℕ) (r : ℕ) → tally ≡ Some r → is_tally tally r ≡ true
is_tally_by tally r is = ap (λ t. is_tally t r) is ∙ eq-eqb r r refl

not_counted : (tally : Option ℕ) (r : ℕ) (op : Op) → (is_tally tally r && not (fits_tally op)) ≡ true → (tally ≡ Some r) × (Counts op → ⊥)
not_counted tally r op is =
    let parts = and_parts (is_tally tally r) (not (fits_tally op)) is in
    let never = not-true (fits_tally op) parts.1 in
    (tally_is tally r parts.0, λ counts. let yes = by_counts op counts in cc)

counted_not : (tally : Option ℕ) (r : ℕ) (op : Op) → tally ≡ Some r → (Counts op → ⊥) → (is_tally tally r && not (fits_tally op)) ≡ true
counted_not tally r op is never = and_from (is_tally tally r) (not (fits_tally op)) (is_tally_by tally r is) (ap not (false_from_ne_true (fits_tally op) (λ fits. never (counts_by op fits))))

may_count : (tally : Option ℕ) (r : ℕ) (op : Op) → (is_tally tally r && not (fits_tally op)) ≡ false → tally ≡ Some r → Counts op
may_count tally r op never is = counts_by op (fitting (is_tally tally r) (fits_tally op) (is_tally_by tally r is) never) where
  fitting : (b c : Bool) → b ≡ true → (b && not c) ≡ false → c ≡ true
  fitting true true e never = refl
  fitting true false e never = absurd cc
  fitting false c e never = absurd cc

count_may : (tally : Option ℕ) (r : ℕ) (op : Op) → (tally ≡ Some r → Counts op) → (is_tally tally r && not (fits_tally op)) ≡ false
count_may tally r op may = false_from_ne_true (is_tally tally r && not (fits_tally op)) (λ is. let parts = not_counted tally r op is in parts.1 (may parts.0))

-- ---- the table

lacks_one : (b : Bool) (c code : ℕ) → cond (not b) (Some c) None ≡ Some code → (b ≡ false) × (c ≡ code)
lacks_one true c code is = absurd cc
lacks_one false c code is = (refl, cc)

pub lacks : (knows : ℕ → Bool) (op : Op) (code : ℕ) → missing knows (codes_of op) ≡ Some code → Calls code op × (knows code ≡ false)
lacks knows (Set w) code is = absurd cc
lacks knows (Alter c args) code is =
    let one = lacks_one (knows c) c code is in
    (one.1, ap knows (sym one.1) ∙ one.0)
lacks knows (Commute c args) code is =
    let one = lacks_one (knows c) c code is in
    (one.1, ap knows (sym one.1) ∙ one.0)
lacks knows Ensure code is = absurd cc

pub lacking : (knows : ℕ → Bool) (op : Op) (code : ℕ) → Calls code op → knows code ≡ false → missing knows (codes_of op) ≡ Some code
lacking knows (Set w) code calls never = absurd calls
lacking knows (Alter c args) code calls never = ap (λ b. cond (not b) (Some c) None) (ap knows calls ∙ never) ∙ ap Some calls
lacking knows (Commute c args) code calls never = ap (λ b. cond (not b) (Some c) None) (ap knows calls ∙ never) ∙ ap Some calls
lacking knows Ensure code calls never = absurd calls

none_one : (b : Bool) (c : ℕ) → cond (not b) (Some c) None ≡ None → b ≡ true
none_one true c is = refl
none_one false c is = absurd cc

pub has_called : (knows : ℕ → Bool) (op : Op) → missing knows (codes_of op) ≡ None → HasCalled knows op
has_called knows (Set w) none code calls = absurd calls
has_called knows (Alter c args) none code calls = ap knows (sym calls) ∙ none_one (knows c) c none
has_called knows (Commute c args) none code calls = ap knows (sym calls) ∙ none_one (knows c) c none
has_called knows Ensure none code calls = absurd calls

pub called_has : (knows : ℕ → Bool) (op : Op) → HasCalled knows op → missing knows (codes_of op) ≡ None
called_has knows (Set w) has = refl
called_has knows (Alter c args) has = ap (λ b. cond (not b) (Some c) None) (has c refl)
called_has knows (Commute c args) has = ap (λ b. cond (not b) (Some c) None) (has c refl)
called_has knows Ensure has = refl

-- ---- what is answered

module _ (means : Means) (knows : ℕ → Bool) (tx : TxSeen) (r : ℕ) (op : Op) where
  -- the answer where these are the three tests
  abbrev tested : Bool → Bool → Bool → Result Edn TxFault
  tested here late miscounts =
      or_refusal (cond (not here) (Some txs.NoSuchRef) (cond late (Some txs.SetAfterCommute) (cond miscounts (Some txs.TallyOnly) None)))
      (called means op (inner_value means tx r) (missing knows (codes_of op)))

  abbrev So : Result Edn TxFault → Type 0
  So answer = AnswersSo means knows tx r op answer

  called_so : IsTx means tx.began tx.dones tx.tally → IsAllowed means knows tx r op → So (called means op (inner_value means tx r) (missing knows (codes_of op)))
  called_so is allowed = by (missing knows (codes_of op)) refl where
    value : Edn
    value = (inner_there means tx r is allowed.0).0

    valued : inner_value means tx r ≡ Some value
    valued = (inner_there means tx r is allowed.0).1

    made : missing knows (codes_of op) ≡ None → (gives : Result Edn Cause) → place means op value ≡ gives → So (told gives)
    made none (Ok v) gives = (allowed, has_called knows op none, (value, value_by means tx r value valued, place_makes means op value v gives))
    made none (Err cause) gives = (allowed, has_called knows op none, (value, value_by means tx r value valued, place_refuses means op value cause gives))

    by : (lacked : Option ℕ) → missing knows (codes_of op) ≡ lacked → So (called means op (inner_value means tx r) lacked)
    by (Some code) is =
        let one = lacks knows op code is in
        (allowed, one.0, one.1)
    by None is = subst (λ v. So (placed means op v)) (sym valued) (made is (place means op value) refl)

  so : IsTx means tx.began tx.dones tx.tally → So (answer_of means knows tx r op)
  so is = by (has_ref tx r) refl (is_set op && is_commuted tx.dones r) refl (is_tally tx.tally r && not (fits_tally op)) refl where
    by : (here : Bool) → has_ref tx r ≡ here → (late : Bool) → (is_set op && is_commuted tx.dones r) ≡ late → (miscounts : Bool) → (is_tally tx.tally r && not (fits_tally op)) ≡ miscounts → So (tested here late miscounts)
    by false a late b miscounts c = ltb-false r (length tx.began) a
    by true a true b miscounts c =
        let parts = late_set tx r op b in
        (ltb-true r (length tx.began) a, parts.0, parts.1)
    by true a false b true c =
        let parts = not_counted tx.tally r op c in
        (ltb-true r (length tx.began) a, may_set tx r op b, parts.0, parts.1)
    by true a false b false c = called_so is (ltb-true r (length tx.began) a, may_set tx r op b, may_count tx.tally r op c)

  by_tests : (here late miscounts : Bool) → has_ref tx r ≡ here → (is_set op && is_commuted tx.dones r) ≡ late → (is_tally tx.tally r && not (fits_tally op)) ≡ miscounts → answer_of means knows tx r op ≡ tested here late miscounts
  by_tests here late miscounts a b c =
      ap (λ x. tested x (is_set op && is_commuted tx.dones r) (is_tally tx.tally r && not (fits_tally op))) a
      ∙ (ap (λ x. tested here x (is_tally tx.tally r && not (fits_tally op))) b
      ∙ ap (λ x. tested here late x) c)

  by_allowed : IsAllowed means knows tx r op → answer_of means knows tx r op ≡ called means op (inner_value means tx r) (missing knows (codes_of op))
  by_allowed allowed = by_tests true false false (lt-ltb r (length tx.began) allowed.0) (set_may tx r op allowed.1) (count_may tx.tally r op allowed.2)

  by_made : IsAllowed means knows tx r op → HasCalled knows op → (old : Edn) → IsValueIn means tx r old → (gives : Result Edn Cause) → place means op old ≡ gives → answer_of means knows tx r op ≡ told gives
  by_made allowed has old value gives is =
      by_allowed allowed
      ∙ (ap (called means op (inner_value means tx r)) (called_has knows op has)
      ∙ (ap (placed means op) (by_value means tx r old value) ∙ ap told is))

  back : (answer : Result Edn TxFault) → So answer → answer_of means knows tx r op ≡ answer
  back (Ok v) (allowed, has, (old, value, makes)) = by_made allowed has old value (Ok v) (makes_place means op old v makes)
  back (Err txs.NoSuchRef) after = by_tests false (is_set op && is_commuted tx.dones r) (is_tally tx.tally r && not (fits_tally op)) (le-ltb r (length tx.began) after) refl refl
  back (Err txs.SetAfterCommute) (below, sets, commuted) = by_tests true true (is_tally tx.tally r && not (fits_tally op)) (lt-ltb r (length tx.began) below) (set_late tx r op sets commuted) refl
  back (Err txs.TallyOnly) (below, may, is, never) = by_tests true false true (lt-ltb r (length tx.began) below) (set_may tx r op may) (counted_not tx.tally r op is never)
  back (Err (txs.NoSuchFun code)) (allowed, calls, never) = by_allowed allowed ∙ ap (called means op (inner_value means tx r)) (lacking knows op code calls never)
  back (Err (txs.Refused cause)) (allowed, has, (old, value, refuses)) = by_made allowed has old value (Err cause) (refuses_place means op old cause refuses)
  back (Err txs.NoSuchAgent) never = absurd never
  back (Err txs.NotMet) never = absurd never
  back (Err txs.Memory) never = absurd never

pub operations_mean : (means : Means) → OperationsMean means
operations_mean means knows tx r op answer is = (λ answers. subst (AnswersSo means knows tx r op) answers (so means knows tx r op is), back means knows tx r op answer)

-- ---- what is required

nothing : (means : Means) (ops : List Op) → after_ops means ops None ≡ None
nothing means [] = refl
nothing means (op ∷ ops) = nothing means ops

inner_none : (means : Means) (tx : TxSeen) (r : ℕ) → length tx.began ≤ r → inner_value means tx r ≡ None
inner_none means tx r after = ap (after_ops means (ops_on r tx.dones)) (slice_get_past tx.began r after) ∙ nothing means (ops_on r tx.dones)

module _ (means : Means) (accepts : Accepts) (knows : ℕ → Bool) (tx : TxSeen) (r : ℕ) (rule : Rule) where
  -- the refusal of a value that is there
  abbrev required : Bool → Bool → Option TxFault
  required has accepted = cond (not has) (Some (txs.NoSuchFun rule.code)) (cond accepted None (Some txs.NotMet))

  requires_so : IsTx means tx.began tx.dones tx.tally → RequiresSo means accepts knows tx r rule (unmet accepts knows rule (inner_value means tx r))
  requires_so is = here (cases_lt r (length tx.began)) where
    judged : (v : Edn) → IsValueIn means tx r v → (has : Bool) → knows rule.code ≡ has → (accepted : Bool) → accepts rule.code rule.args v ≡ accepted → RequiresSo means accepts knows tx r rule (required has accepted)
    judged v value false unknown accepted a = (get-below tx.began r value.0 value.1, refl, unknown)
    judged v value true has true a = (v, value, has, a)
    judged v value true has false a = (v, value, has, a)

    here : (r < length tx.began) ⊎ (length tx.began ≤ r) → RequiresSo means accepts knows tx r rule (unmet accepts knows rule (inner_value means tx r))
    here (inl below) =
        let v = inner_there means tx r is below in
        subst (λ o. RequiresSo means accepts knows tx r rule (unmet accepts knows rule o)) (sym v.1) (judged v.0 (value_by means tx r v.0 v.1) (knows rule.code) refl (accepts rule.code rule.args v.0) refl)
    here (inr after) = subst (λ o. RequiresSo means accepts knows tx r rule (unmet accepts knows rule o)) (sym (inner_none means tx r after)) after

  by_required : (v : Edn) → IsValueIn means tx r v → (has : Bool) → knows rule.code ≡ has → (accepted : Bool) → accepts rule.code rule.args v ≡ accepted → unmet accepts knows rule (inner_value means tx r) ≡ required has accepted
  by_required v value has h accepted a =
      ap (unmet accepts knows rule) (by_value means tx r v value) ∙ (ap (λ b. required b (accepts rule.code rule.args v)) h ∙ ap (required has) a)

  requires_back : IsTx means tx.began tx.dones tx.tally → (refusal : Option TxFault) → RequiresSo means accepts knows tx r rule refusal → unmet accepts knows rule (inner_value means tx r) ≡ refusal
  requires_back is None (v, value, has, a) = by_required v value true has true a
  requires_back is (Some txs.NoSuchRef) after = ap (unmet accepts knows rule) (inner_none means tx r after)
  requires_back is (Some (txs.NoSuchFun code)) (below, same, unknown) =
      let v = inner_there means tx r is below in
      by_required v.0 (value_by means tx r v.0 v.1) false (ap knows same ∙ unknown) (accepts rule.code rule.args v.0) refl ∙ ap (λ n. Some (txs.NoSuchFun n)) same
  requires_back is (Some txs.NotMet) (v, value, has, a) = by_required v value true has false a
  requires_back is (Some txs.SetAfterCommute) never = absurd never
  requires_back is (Some txs.TallyOnly) never = absurd never
  requires_back is (Some (txs.Refused cause)) never = absurd never
  requires_back is (Some txs.NoSuchAgent) never = absurd never
  requires_back is (Some txs.Memory) never = absurd never

pub requirements_mean : (means : Means) (accepts : Accepts) → RequirementsMean means accepts
requirements_mean means accepts knows tx r rule refusal is = (λ so. subst (RequiresSo means accepts knows tx r rule) so (requires_so means accepts knows tx r rule is), requires_back means accepts knows tx r rule is refusal)

-- ---- what is sent

module _ (knows : ℕ → Bool) (tx : TxSeen) (g : ℕ) (action : Action) where
  abbrev sent : Option ℕ → Option ℕ → Option TxFault
  sent lacked absent = option_or (option_map txs.NoSuchFun lacked) (option_map (λ h. txs.NoSuchAgent) absent)

  have : missing_fun knows action ≡ None → AllByRecursion (λ code. knows code ≡ true) (functions_of action)
  have none = found_none knows (functions_of action) none

  sends_so : SendsSo knows tx g action (send_refusal knows tx g action)
  sends_so = by (missing_fun knows action) refl (absent_agent tx.agents g action) refl where
    by : (lacked : Option ℕ) → missing_fun knows action ≡ lacked → (absent : Option ℕ) → absent_agent tx.agents g action ≡ absent → SendsSo knows tx g action (sent lacked absent)
    by (Some code) is absent a = first_found knows (λ c. knows c ≡ true) (λ c. c ≡ code) (λ c so. so) (λ c so. so) (functions_of action) code is refl
    by None is None a = (have is, all_map (λ h. nat_lt h tx.agents ≡ true) (λ h. h < tx.agents) (λ h below. ltb-true h tx.agents below) (agents_of g action) (found_none (λ h. nat_lt h tx.agents) (agents_of g action) a))
    by None is (Some h) a = (have is, any_found (λ n. nat_lt n tx.agents) (λ n. tx.agents ≤ n) (λ n past. ltb-false n tx.agents past) (agents_of g action) h a)

  by_sent : (lacked : Option ℕ) → missing_fun knows action ≡ lacked → (absent : Option ℕ) → absent_agent tx.agents g action ≡ absent → send_refusal knows tx g action ≡ sent lacked absent
  by_sent lacked l absent a = ap (λ x. sent x (absent_agent tx.agents g action)) l ∙ ap (sent lacked) a

  has_all : AllByRecursion (λ code. knows code ≡ true) (functions_of action) → missing_fun knows action ≡ None
  has_all all = none_found knows (functions_of action) all

  sends_back : (refusal : Option TxFault) → SendsSo knows tx g action refusal → send_refusal knows tx g action ≡ refusal
  sends_back None (all, here) = by_sent None (has_all all) None
      (none_found (λ h. nat_lt h tx.agents) (agents_of g action) (all_map (λ h. h < tx.agents) (λ h. nat_lt h tx.agents ≡ true) (λ h below. lt-ltb h tx.agents below) (agents_of g action) here))
  sends_back (Some (txs.NoSuchFun lacked)) first =
      let one = found_first knows (λ c. knows c ≡ true) (λ c. c ≡ lacked) (λ c so. so) (λ c so. so) (functions_of action) first in
      by_sent (Some one.0) one.1 (absent_agent tx.agents g action) refl ∙ ap (λ n. Some (txs.NoSuchFun n)) one.2
  sends_back (Some txs.NoSuchAgent) (all, any) =
      let one = found_any (λ n. nat_lt n tx.agents) (λ n. tx.agents ≤ n) (λ n past. le-ltb n tx.agents past) (agents_of g action) any in
      by_sent None (has_all all) (Some one.0) one.1
  sends_back (Some txs.NoSuchRef) never = absurd never
  sends_back (Some txs.SetAfterCommute) never = absurd never
  sends_back (Some txs.TallyOnly) never = absurd never
  sends_back (Some (txs.Refused cause)) never = absurd never
  sends_back (Some txs.NotMet) never = absurd never
  sends_back (Some txs.Memory) never = absurd never

pub sends_in_tx_mean : SendsInTxMean
sends_in_tx_mean knows tx g action refusal = (λ so. subst (SendsSo knows tx g action) so (sends_so knows tx g action), sends_back knows tx g action refusal)
