-- An operation more of an open transaction.
use Rattle.std.proofs.Common.{◌≡◌, ℕ, ◌&&◌, ◌||◌, not, Bool, true, false, Result, Ok, Err, List, [], ◌∷◌, ◌++◌, length-append, Option, None, Some, if◌then◌else◌, refl, ap, ◌∙◌, arith}
use Rattle.std.specs.List.{AllByRecursion}
use Rattle.std.proofs.lemmas.Bool.{eq-eqb}
use Rattle.std.proofs.lemmas.List.{take-append-le}
use Rattle.std.proofs.lemmas.List.Folds.{list_all-append}
use Rattle.ref_value.specs.Edn.{Edn}
use Rattle.ref_fun.specs.Meaning.{Means}
use Rattle.ref_fun.specs.declared.faults.Cause.{Cause}
use Rattle.ref_log.specs.Replay.{codes_of, is_set, missing, place}
use Rattle.ref_log.specs.Tally.{fit_tally, fits_tally, is_tally}
use Rattle.ref_log.specs.declared.operations.Done.{Done}
use Rattle.ref_log.specs.declared.operations.Op.{Op}
use Rattle.ref_tx.specs.Inner.{IsTx, and_place, answer_of, called, given, has_ref, inner_value, is_commuted, or_refusal, placed, refusal, told, value_after, with_done}
use Rattle.ref_tx.specs.Laws.{AreAnswers-append, value_after-here}
use Rattle.ref_tx.specs.Seen.{TxSeen}
use Rattle.ref_tx.specs.declared.faults.TxFault.{TxFault}
use Rattle.ref_tx.specs.declared.faults.TxFault.TheVariants.{NoSuchRef, SetAfterCommute, TallyOnly}
use Rattle.ref_play.specs.Machine.{Look}
use Rattle.ref_play.specs.Present.{Present}
use Rattle.ref_play.specs.Runs.{IsLook, IsOpen}

-- What is answered is the place at the in-transaction value.
told-Ok : (x : Result Edn Cause) (v : Edn) → told x ≡ Ok v → given x ≡ Some v
told-Ok (Ok w) v is = ap Some cc
told-Ok (Err c) v is = absurd cc

placed-Ok : (means : Means) (op : Op) (there : Option Edn) (v : Edn) → placed means op there ≡ Ok v → and_place means op there ≡ Some v
placed-Ok means op (Some w) v is = told-Ok (place means op w) v is
placed-Ok means op None v is = absurd cc

pub called-Ok : (means : Means) (op : Op) (there : Option Edn) (lacks : Option ℕ) (v : Edn) → called means op there lacks ≡ Ok v → (lacks ≡ None) × (and_place means op there ≡ Some v)
called-Ok means op there (Some code) v is = absurd cc
called-Ok means op there None v is = (refl, placed-Ok means op there v is)

pub answer-Ok : (refused : Option TxFault) (answer : Result Edn TxFault) (v : Edn) → or_refusal refused answer ≡ Ok v → (refused ≡ None) × (answer ≡ Ok v)
answer-Ok (Some fault) answer v is = absurd cc
answer-Ok None answer v is = (refl, is)

last_failed : (a b c : Bool) (x y z : TxFault) → (if a then Some x else if b then Some y else if c then Some z else None) ≡ None → c ≡ false
last_failed true b c x y z e = absurd cc
last_failed false true c x y z e = absurd cc
last_failed false false true x y z e = absurd cc
last_failed false false false x y z e = refl

fits_here : (tally fits : Bool) → (tally && not fits) ≡ false → (not tally || fits) ≡ true
fits_here true true e = refl
fits_here true false e = absurd cc
fits_here false fits e = refl

fits_more : (tally : Option ℕ) (ds : List Done) (d : Done) → fit_tally tally ds ≡ true → (is_tally tally d.r && not (fits_tally d.op)) ≡ false → fit_tally tally (ds ++ d ∷ []) ≡ true
fits_more tally ds d so_far here =
    let fits : Done → Bool = λ x. not (is_tally tally x.r) || fits_tally x.op in
    list_all-append fits ds (d ∷ []) ∙ rw (so_far, fits_here (is_tally tally d.r) (fits_tally d.op) here) refl

pub grown : (means : Means) (knows : ℕ → Bool) (tx : TxSeen) (r : ℕ) (op : Op) (v : Edn) → answer_of means knows tx r op ≡ Ok v → IsTx means tx.began tx.dones tx.tally → IsTx means tx.began (tx.dones ++ (record { r = r; op = op; answer = v }) ∷ []) tx.tally
grown means knows tx r op v is so_far =
    let d : Done = record { r = r; op = op; answer = v } in
    let parts = answer-Ok (refusal tx r op) (called means op (inner_value means tx r) (missing knows (codes_of op))) v is in
    let places = called-Ok means op (inner_value means tx r) (missing knows (codes_of op)) v parts.1 in
    record {
      answered = AreAnswers-append means tx.began [] tx.dones d so_far.answered (value_after-here means tx.began tx.dones d r (eq-eqb r r refl) ∙ places.1);
      tallied = fits_more tx.tally tx.dones d so_far.tallied (last_failed (not (has_ref tx r)) (is_set op && is_commuted tx.dones r) (is_tally tx.tally r && not (fits_tally op)) NoSuchRef SetAfterCommute TallyOnly parts.0);
    }

pub open_grown : (means : Means) (now : Present) (knows : ℕ → Bool) (tx : TxSeen) (r : ℕ) (op : Op) (v : Edn) → answer_of means knows tx r op ≡ Ok v → IsOpen means now tx → IsOpen means now (with_done tx r op v)
open_grown means now knows tx r op v is was = record {
  is = grown means knows tx r op v is was.is;
  point = was.point;
  count = was.count;
  same = was.same;
  tally = was.tally;
  agents = was.agents;
  sends = was.sends;
}

look_grown : (means : Means) (tx : TxSeen) (r : ℕ) (op : Op) (v : Edn) (look : Look) → IsLook means tx look → IsLook means (with_done tx r op v) look
look_grown means tx r op v look is =
    let d : Done = record { r = r; op = op; answer = v } in
    (omega (arith, is.0, length-append tx.dones (d ∷ [])), ap (λ ds. value_after means tx.began ds look.r) (take-append-le look.after tx.dones (d ∷ []) is.0) ∙ is.1)

pub looks_grown : (means : Means) (tx : TxSeen) (r : ℕ) (op : Op) (v : Edn) (looks : List Look) → AllByRecursion (IsLook means tx) looks → AllByRecursion (IsLook means (with_done tx r op v)) looks
looks_grown means tx r op v [] are = tt
looks_grown means tx r op v (look ∷ looks) are = (look_grown means tx r op v look are.0, looks_grown means tx r op v looks are.1)
