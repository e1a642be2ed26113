-- A transaction with one operation more is a transaction.
use Rattle.std.proofs.Common.{◌≡◌, ℕ, ◌&&◌, ◌||◌, not, Bool, true, false, if◌then◌else◌, List, [], ◌∷◌, ◌++◌, Option, None, Some, Result, Ok, Err, OnOk, OnErr, subst, refl, sym, ap, ◌∙◌, arith}
use Rattle.std.specs.BTreeMap.{get}
use Rattle.std.specs.Ordering.{nat_cmp}
use Rattle.std.proofs.lemmas.Bool.{eq-eqb}
use Rattle.std.proofs.lemmas.List.{length-append, take-append-le}
use Rattle.std.proofs.lemmas.List.Folds.{list_all-append}
use Rattle.ref_value.specs.Edn.{Edn}
use Rattle.ref_fun.specs.Meaning.{Means}
use Rattle.ref_log.specs.Replay.{is_set}
use Rattle.ref_log.specs.Tally.{fit_tally, fits_tally, is_tally}
use Rattle.ref_log.specs.declared.operations.Op.{Op}
use Rattle.ref_log.specs.declared.operations.Done.{Done}
use Rattle.ref_log.specs.declared.sends.Sent.{Sent}
use Rattle.ref_tx.specs.declared.faults.TxFault.{TxFault}
use Rattle.ref_tx.specs.declared.faults.TxFault.TheVariants.{NoSuchRef, SetAfterCommute, TallyOnly}
use Rattle.ref_tx.specs.declared.tables.Table.{Table}
use Rattle.ref_tx.specs.Seen.{TxSeen}
use Rattle.ref_tx.specs.Inner.{after_ops, has_ref, is_commuted, refusal, inner_value, value_after, and_place, IsTx}
use Rattle.ref_tx.specs.Own.{IsTableOf, IsTabled}
use Rattle.ref_tx.specs.Laws.{value_after-here, AreAnswers-append}

-- ---- the tally

-- Where nothing is refused, the last test of three failed.
last_failed : (a b c : Bool) (x y z : TxFault) → (if a then Some x else if b then Some y else if c then Some z else None) ≡ None → c ≡ false
last_failed true b c x y z e = absurd cc
last_failed false true c x y z e = absurd cc
last_failed false false true x y z e = absurd cc
last_failed false false false x y z e = refl

fits_here : (tally fits : Bool) → (tally && not fits) ≡ false → (not tally || fits) ≡ true
fits_here true true e = refl
fits_here true false e = absurd cc
fits_here false fits e = refl

pub fits_more : (tally : Option ℕ) (ds : List Done) (d : Done) → fit_tally tally ds ≡ true → (is_tally tally d.r && not (fits_tally d.op)) ≡ false → fit_tally tally (ds ++ d ∷ []) ≡ true
fits_more tally ds d so_far here =
    let fits : Done → Bool = λ x. not (is_tally tally x.r) || fits_tally x.op in
    list_all-append fits ds (d ∷ []) ∙ rw (so_far, fits_here (is_tally tally d.r) (fits_tally d.op) here) refl

-- ---- the operations

allowed_fits : (tx : TxSeen) (r : ℕ) (op : Op) → refusal tx r op ≡ None → (is_tally tx.tally r && not (fits_tally op)) ≡ false
allowed_fits tx r op e = last_failed (not (has_ref tx r)) (is_set op && is_commuted tx.dones r) (is_tally tx.tally r && not (fits_tally op)) NoSuchRef SetAfterCommute TallyOnly e

pub tx_more : (means : Means) (read_point : ℕ) (began : List Edn) (ds : List Done) (sends : List Sent) (tally : Option ℕ) (agents : ℕ) (d : Done) → IsTx means began ds tally
    → refusal (record { read_point = read_point; began = began; dones = ds; sends = sends; tally = tally; agents = agents }) d.r d.op ≡ None
    → and_place means d.op (value_after means began ds d.r) ≡ Some d.answer
    → IsTx means began (ds ++ d ∷ []) tally
tx_more means read_point began ds sends tally agents d is allowed gives = record {
  answered = AreAnswers-append means began [] ds d is.answered (value_after-here means began ds d d.r (eq-eqb d.r d.r refl) ∙ gives);
  tallied = fits_more tally ds d is.tallied (allowed_fits (record { read_point = read_point; began = began; dones = ds; sends = sends; tally = tally; agents = agents }) d.r d.op allowed);
}

pub value_more : (means : Means) (began : List Edn) (ds : List Done) (r : ℕ) (op : Op) (v : Edn) → and_place means op (value_after means began ds r) ≡ Some v
    → value_after means began (ds ++ (record { r = r; op = op; answer = v }) ∷ []) r ≡ Some v
value_more means began ds r op v gives = value_after-here means began ds (record { r = r; op = op; answer = v }) r (eq-eqb r r refl) ∙ gives

-- The table stays that of the first operations.
pub tabled_more : (means : Means) (began : List Edn) (ds : List Done) (d : Done) (table : Table) → IsTabled means began ds table → IsTabled means began (ds ++ d ∷ []) table
tabled_more means began ds d table is = record {
  within = omega (arith, is.within, length-append ds (d ∷ []));
  has = subst (λ l. IsTableOf means began l (get nat_cmp table.own)) (sym (take-append-le table.first ds (d ∷ []) is.within)) is.has;
}

-- What a transaction is, after one operation more or none.
pub kept_more : {T E : Type 0} (result : Result T E) (means : Means) (tx : TxSeen) (read_point : ℕ) (began : List Edn) (ds new : List Done) (sends : List Sent) (tally : Option ℕ) (agents : ℕ) (table : Table) (r : ℕ) (op : Op) (v answer : Edn)
    → tx ≡ record { read_point = read_point; began = began; dones = ds; sends = sends; tally = tally; agents = agents }
    → IsTx means began ds tally → IsTabled means began ds table
    → refusal tx r op ≡ None
    → and_place means op (inner_value means tx r) ≡ Some v
    → answer ≡ v
    → OnOk result (new ≡ ds ++ (record { r = r; op = op; answer = answer }) ∷ [])
    → OnErr result (new ≡ ds)
    → IsTx means began new tally × IsTabled means began new table
kept_more (Err e) means tx read_point began ds new sends tally agents table r op v answer seen is tabled allowed gives answers adds stays = rw stays (is, tabled)
kept_more (Ok x) means tx read_point began ds new sends tally agents table r op v answer seen is tabled allowed gives answers adds stays =
    let d : Done = record { r = r; op = op; answer = v } in
    let placed : and_place means op (value_after means began ds r) ≡ Some v = ap (λ t. and_place means op (inner_value means t r)) (sym seen) ∙ gives in
    let more : new ≡ ds ++ d ∷ [] = adds ∙ ap (λ x. ds ++ (record { r = r; op = op; answer = x }) ∷ []) answers in
    rw more (
      tx_more means read_point began ds sends tally agents d is (ap (λ t. refusal t r op) (sym seen) ∙ allowed) placed,
      tabled_more means began ds d table tabled,
    )

-- Where there is no ref, there is no value after any operations.
pub none_stays : (means : Means) (ops : List Op) → after_ops means ops None ≡ None
none_stays means [] = refl
none_stays means (op ∷ ops) = none_stays means ops

-- What a transaction is that has done nothing.
fits_none : (tally : Option ℕ) → fit_tally tally [] ≡ true
fits_none None = refl
fits_none (Some t) = refl

pub begun : (means : Means) (began : List Edn) (ds : List Done) (tally : Option ℕ) (table : Table) → ds ≡ [] → IsTabled means began [] table → IsTx means began ds tally × IsTabled means began ds table
begun means began ds tally table none tabled = rw none (record { answered = tt; tallied = fits_none tally }, tabled)
