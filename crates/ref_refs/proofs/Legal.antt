-- The operations of a transaction are legal where nobody else has changed what it protects.
use Rattle.std.proofs.Common.{◌≡◌, ℕ, zero, suc, ◌+◌, ◌<◌, ◌==◌, ◌&&◌, not, Bool, true, false, Result, Ok, Err, List, [], ◌∷◌, ◌++◌, length, Option, None, Some, add-one, drop-cons, slice_get, slice_set, get_or, take, drop, refl, sym, ap, ◌∙◌, arith}
use Rattle.std.specs.Option.{option_map}
use Rattle.std.specs.Option.{option_or}
use Rattle.std.specs.Ordering.{eq_by_cmp}
use Rattle.std.proofs.lemmas.Bool.{eqb-true, eqb-false, eq-eqb, and_from, both_ways, not-false, false_from_ne_true}
use Rattle.std.proofs.lemmas.List.{append_assoc, append-nil, set-get_or, take_more}
use Rattle.std.proofs.lemmas.List.Folds.{find-append}
use Rattle.std.proofs.lemmas.Option.{get_or_from_slice_get, slice_get-get_or}
use Rattle.ref_value.specs.Order.{edn_cmp}
use Rattle.ref_value.specs.OrderLaws.{edn_eq}
use Rattle.ref_value.specs.Edn.{Edn, nil}
use Rattle.ref_fun.specs.declared.faults.Cause.{Cause}
use Rattle.ref_fun.specs.Meaning.{Means}
use Rattle.ref_log.specs.declared.faults.AuditFault.{AuditFault}
use Rattle.ref_log.specs.declared.operations.Op.{Op}
use Rattle.ref_log.specs.declared.operations.Op.TheVariants.{Set, Alter, Commute, Ensure}
use Rattle.ref_log.specs.declared.operations.Done.{Done}
use Rattle.ref_log.specs.Replay.{place, is_ensure, is_kept, is_protected, after_one, after_done, after_dones, after_place, missing}
use Rattle.ref_log.specs.Laws.{is_kept-itself, slice_get-slice_set, slice_get-slice_set-here}
use Rattle.ref_tx.specs.Inner.{and_place, given, value_after, AreAnswers}
use Rattle.ref_tx.specs.Laws.{value_after-here, value_after-elsewhere}
use Rattle.ref_refs.specs.declared.faults.CommitFault.{CommitFault}
use Rattle.ref_refs.specs.declared.faults.CommitFault.TheVariants.{Foreign}
use Rattle.ref_refs.specs.declared.faults.Alien.TheVariants as aliens
use Rattle.ref_tx.specs.Seen.{TxSeen}
use Rattle.ref_refs.specs.Commit.{refused, alien_ref, alien_value, commuted_code, commuted_codes, differs, differs_at, first_protected}
use Rattle.ref_refs.proofs.Refs.{all_here, no_map}
use Rattle.ref_refs.proofs.Smallest.{none_in_range}

-- ---- one operation

free_or_kept : (free : Bool) (point : ℕ) (d : Done) (values : List Edn) (v : Edn) → (free ≡ false → v ≡ d.answer) → after_place free point d values (Ok v) ≡ Ok (slice_set values d.r v)
free_or_kept true point d values v kept = refl
free_or_kept false point d values v kept =
    let is : is_kept d v ≡ true = ap (is_kept d) (kept refl) ∙ is_kept-itself d in
    rw is refl

pub stepped_one : (means : Means) (free : Bool) (point : ℕ) (d : Done) (values : List Edn) (old v : Edn) → slice_get values d.r ≡ Some old → place means d.op old ≡ Ok v → (free ≡ false → v ≡ d.answer) → after_one means free point d values ≡ Ok (slice_set values d.r v)
stepped_one means free point d values old v there gives kept = rw (there, gives) (free_or_kept free point d values v kept)

pub refused_one : (means : Means) (d : Done) (ds : List Done) (values : List Edn) (old v : Edn) → slice_get values d.r ≡ Some old → place means d.op old ≡ Ok v → refused means (d ∷ ds) values ≡ refused means ds (slice_set values d.r v)
refused_one means d ds values old v there gives = rw (there, gives) refl

pub others_stay : (values : List Edn) (i r : ℕ) (v : Edn) → (i == r) ≡ false → slice_get (slice_set values i v) r ≡ slice_get values r
others_stay values i r v other = slice_get-slice_set values i r v (eqb-false i r other)

pub answered : (free : Bool) (values : List Edn) (i : ℕ) (v answer : Edn) → i < length values → (free ≡ false → v ≡ answer) → free ≡ false → slice_get (slice_set values i v) i ≡ Some answer
answered free values i v answer here kept protected = slice_get-slice_set-here values i v here ∙ ap Some (kept protected)

-- an operation that only ensures leaves its ref as it is
pub ensure_keeps : (means : Means) (op : Op) (v : Edn) → is_ensure op ≡ true → place means op v ≡ Ok v
ensure_keeps means (Set w) v is = absurd cc
ensure_keeps means (Alter code args) v is = absurd cc
ensure_keeps means (Commute code args) v is = absurd cc
ensure_keeps means Ensure v is = refl

pub ensured_stays : (values : List Edn) (i : ℕ) (v : Edn) → slice_get values i ≡ Some v → slice_set values i v ≡ values
ensured_stays values i v there = ap (slice_set values i) (sym (get_or_from_slice_get values i v nil there)) ∙ set-get_or values i nil

pub ensured_answer : (means : Means) (op : Op) (there : Option Edn) (v answer : Edn) → is_ensure op ≡ true → there ≡ Some v → option_map (place means op) there ≡ Some (Ok answer) → v ≡ answer
ensured_answer means op there v answer is found kept =
    let placed = sym (ap (option_map (place means op)) found ∙ ap Some (ensure_keeps means op v is)) ∙ kept in
    cc

-- the value of a ref that is there
pub there : (values : List Edn) (r : ℕ) → r < length values → (v : Edn) × (slice_get values r ≡ Some v)
there values r here = (get_or values r nil, slice_get-get_or values r nil here)

-- what an operation makes of it
pub made_of : (means : Means) (op : Op) (o : Option Edn) (old v : Edn) → o ≡ Some old → option_map (place means op) o ≡ Some (Ok v) → place means op old ≡ Ok v
made_of means op o old v is makes =
    let made : Some (place means op old) ≡ Some (Ok v) = sym (ap (option_map (place means op)) is) ∙ makes in
    cc

-- ---- all operations, one at a time

-- the first of those that are left
pub first_left : (ds : List Done) (i : ℕ) (d : Done) → i < length ds → d ≡ get_or ds i d → drop i ds ≡ d ∷ drop (i + 1) ds
first_left ds i d below is =
    rw (add-one) (drop-cons ds i d below ∙ ap (λ x. x ∷ drop (suc i) ds) (sym is))

pub one_more : (ds : List Done) (i : ℕ) (d : Done) → i < length ds → d ≡ get_or ds i d → take (i + 1) ds ≡ take i ds ++ d ∷ []
one_more ds i d below is = take_more ds i d below ∙ ap (λ x. take i ds ++ x ∷ []) (sym is)

-- each operation answered the in-transaction value
answers_from : (means : Means) (began : List Edn) (former ds : List Done) (i : ℕ) (d : Done) → AreAnswers means began former ds → i < length ds → d ≡ get_or ds i d → value_after means began ((former ++ take i ds) ++ d ∷ []) d.r ≡ Some d.answer
answers_from means began former [] i d are below is = absurd (omega (arith, below))
answers_from means began former (x ∷ ds) zero d are below is =
    ap (λ l. value_after means began (l ++ d ∷ []) d.r) (append-nil former)
    ∙ (ap (λ y. value_after means began (former ++ y ∷ []) y.r) is ∙ (are.0 ∙ ap (λ y. Some y.answer) (sym is)))
answers_from means began former (x ∷ ds) (suc i) d are below is =
    ap (λ l. value_after means began (l ++ d ∷ []) d.r) (sym (append_assoc former (x ∷ []) (take i ds)))
    ∙ answers_from means began (former ++ x ∷ []) ds i d are.1 (omega (arith, below)) is

given_Ok : (x : Result Edn Cause) (v : Edn) → given x ≡ Some v → x ≡ Ok v
given_Ok (Ok w) v is = ap Ok cc
given_Ok (Err c) v is = absurd cc

placed_from : (means : Means) (op : Op) (there : Option Edn) (v : Edn) → and_place means op there ≡ Some v → option_map (place means op) there ≡ Some (Ok v)
placed_from means op None v is = absurd cc
placed_from means op (Some old) v is = ap Some (given_Ok (place means op old) v is)

module _ (means : Means) (began : List Edn) (all : List Done) (answered_all : AreAnswers means began [] all) where
  -- Before an operation, what the transaction protects has its in-transaction value.
  abbrev pub Agrees : ℕ → List Edn → Type 0
  Agrees i values = (r : ℕ) → is_protected all r ≡ true → slice_get values r ≡ value_after means began (take i all) r

  -- so a protected ref gets the kept answer
  pub kept_at : (i : ℕ) (d : Done) (values : List Edn) (free : Bool) → i < length all → d ≡ get_or all i d → free ≡ not (is_protected all d.r) → Agrees i values → free ≡ false → option_map (place means d.op) (slice_get values d.r) ≡ Some (Ok d.answer)
  kept_at i d values free below is frees agrees protected =
      let here = agrees d.r (not-false (is_protected all d.r) (sym frees ∙ protected)) in
      placed_from means d.op (slice_get values d.r) d.answer
      (ap (and_place means d.op) here ∙ (sym (value_after-here means began (take i all) d d.r (eq-eqb d.r d.r refl)) ∙ answers_from means began [] all i d answered_all below is))

  pub agrees_more : (i : ℕ) (d : Done) (values after : List Edn) (free : Bool) → i < length all → d ≡ get_or all i d → free ≡ not (is_protected all d.r) → Agrees i values
      → ((r : ℕ) → (d.r == r) ≡ false → slice_get after r ≡ slice_get values r) → (free ≡ false → slice_get after d.r ≡ Some d.answer) → Agrees (i + 1) after
  agrees_more i d values after free below is frees agrees others kept r protected =
      by (d.r == r) refl ∙ ap (λ l. value_after means began l r) (sym (one_more all i d below is)) where
        by : (b : Bool) → (d.r == r) ≡ b → slice_get after r ≡ value_after means began (take i all ++ d ∷ []) r
        by true e =
            let same = eqb-true d.r r e in
            ap (slice_get after) (sym same)
            ∙ (kept (frees ∙ ap not (ap (is_protected all) same ∙ protected))
            ∙ (sym (answers_from means began [] all i d answered_all below is) ∙ ap (value_after means began (take i all ++ d ∷ [])) same))
        by false e = others r e ∙ (agrees r protected ∙ sym (value_after-elsewhere means began (take i all) d r e))

-- the table has what an operation calls again
none_of : {X : Type 0} (first second : Option X) → option_or first second ≡ None → (first ≡ None) × (second ≡ None)
none_of None second is = (refl, is)
none_of (Some x) second is = absurd cc

pub served_at : (knows : ℕ → Bool) (ds : List Done) (i : ℕ) (d : Done) → missing knows (commuted_codes ds) ≡ None → i < length ds → d ≡ get_or ds i d → missing knows (commuted_code d.op) ≡ None
served_at knows [] i d none below is = absurd (omega (arith, below))
served_at knows (x ∷ ds) i d none below is = at i below is (none_of (missing knows (commuted_code x.op)) (missing knows (commuted_codes ds)) (sym (find-append (λ code. not (knows code)) (commuted_code x.op) (commuted_codes ds)) ∙ none)) (λ j later. served_at knows ds j d later) where
  at : (j : ℕ) → j < length (x ∷ ds) → d ≡ get_or (x ∷ ds) j d → (missing knows (commuted_code x.op) ≡ None) × (missing knows (commuted_codes ds) ≡ None) → ((k : ℕ) → missing knows (commuted_codes ds) ≡ None → k < length ds → d ≡ get_or ds k d → missing knows (commuted_code d.op) ≡ None) → missing knows (commuted_code d.op) ≡ None
  at zero below is parts later = ap (λ y. missing knows (commuted_code y.op)) is ∙ parts.0
  at (suc j) below is parts later = later j parts.1 (omega (arith, below)) is

-- What is left is made of what was made so far, as all of it is of the beginning.
pub stepped_more : (means : Means) (all : List Done) (point i : ℕ) (d : Done) (values after : List Edn) (whole : Result (List Edn) AuditFault) (free : Bool) → i < length all → d ≡ get_or all i d → free ≡ not (is_protected all d.r) → after_one means free point d values ≡ Ok after → after_dones means all point (drop i all) (Ok values) ≡ whole → after_dones means all point (drop (i + 1) all) (Ok after) ≡ whole
stepped_more means all point i d values after whole free below is frees one so_far =
    let done : after_done means all point d values ≡ Ok after = ap (λ b. after_one means b point d values) (sym frees) ∙ one in
    sym (ap (after_dones means all point (drop (i + 1) all)) done) ∙ (ap (λ l. after_dones means all point l (Ok values)) (sym (first_left all i d below is)) ∙ so_far)

pub refused_more : (means : Means) (all : List Done) (i : ℕ) (d : Done) (values after : List Edn) (whole : Option CommitFault) → i < length all → d ≡ get_or all i d → ((ds : List Done) → refused means (d ∷ ds) values ≡ refused means ds after) → refused means (drop i all) values ≡ whole → refused means (drop (i + 1) all) after ≡ whole
refused_more means all i d values after whole below is one so_far =
    sym (one (drop (i + 1) all)) ∙ (ap (λ l. refused means l values) (sym (first_left all i d below is)) ∙ so_far)

pub refused_now : (means : Means) (all : List Done) (i : ℕ) (d : Done) (values : List Edn) (whole : Option CommitFault) (fault : CommitFault) → i < length all → d ≡ get_or all i d → ((ds : List Done) → refused means (d ∷ ds) values ≡ Some fault) → refused means (drop i all) values ≡ whole → whole ≡ Some fault
refused_now means all i d values whole fault below is one so_far =
    sym so_far ∙ (ap (λ l. refused means l values) (first_left all i d below is) ∙ one (drop (i + 1) all))

-- ---- the beginning

same_of : (began now : Option Edn) (v : Edn) → now ≡ Some v → differs began now ≡ false → now ≡ began
same_of None None v there is = refl
same_of (Some b) None v there is = absurd cc
same_of None (Some w) v there is = absurd cc
same_of (Some b) (Some w) v there is = ap Some (sym ((edn_eq b w true (sym (not-false (eq_by_cmp edn_cmp b w) is))).0 refl))

pub agrees_first : (values : List Edn) (tx : TxSeen) → alien_ref values tx.dones ≡ None → alien_value values tx ≡ None → (r : ℕ) → is_protected tx.dones r ≡ true → slice_get values r ≡ slice_get tx.began r
agrees_first values tx here none r protected =
    let below = all_here values tx.dones here r protected in
    let holds = differs_at values tx.began in
    let wanted : ℕ → Bool = λ q. is_protected tx.dones q && holds q in
    let unwanted : wanted r ≡ false = none_in_range wanted (length values) 0 r (no_map (λ q. Foreign (aliens.Value q)) (first_protected values tx.dones holds) none) (omega arith) (omega (arith, below)) in
    let same : holds r ≡ false = false_from_ne_true (holds r) (λ h. both_ways (wanted r) unwanted (and_from (is_protected tx.dones r) (holds r) protected h)) in
    same_of (slice_get tx.began r) (slice_get values r) (get_or values r nil) (slice_get-get_or values r nil below) same
