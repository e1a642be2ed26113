-- A mark that is set at a worker's step.
use Rattle.std.proofs.Common.{◌≡◌, ℕ, ◌<◌, ◌==◌, Bool, true, false, ◌&&◌, if◌then◌else◌, Some, List, [], ◌∷◌, length, slice_get, slice_set, get_or, refl, sym, ap, ◌∙◌, zero, suc, arith}
use Rattle.std.proofs.lemmas.Bool.Decides.{nat_tests}
use Rattle.std.proofs.lemmas.Option.{slice_get_within, slice_get_read}
use Rattle.std.proofs.lemmas.List.{set-get_or}
use Rattle.std.specs.Bool.{MatchBool}
use Rattle.std.specs.Prelude.{◌≢◌}
use Rattle.ref_log.specs.declared.entries.Stamp.{Stamp}
use Rattle.ref_workload.specs.Marks.{Takes}
use Rattle.ref_workload.specs.Orderly.{at_stamp, in_row, is_stamp}
use Rattle.ref_workload.specs.declared.order.board.Mark.{Mark}
use Rattle.ref_workload.specs.declared.order.board.Mark.TheVariants.{Open}

pub get_set_same : {X : Type 0} (xs : List X) (i : ℕ) (x : X) → i < length xs → slice_get (slice_set xs i x) i ≡ Some x
get_set_same [] i x h = absurd (omega arith)
get_set_same (y ∷ xs) zero x h = refl
get_set_same (y ∷ xs) (suc i) x h = get_set_same xs i x (omega arith)

pub get_set_other : {X : Type 0} (xs : List X) (i j : ℕ) (x : X) → (j == i) ≡ false → slice_get (slice_set xs i x) j ≡ slice_get xs j
get_set_other [] i j x h = refl
get_set_other (y ∷ xs) zero zero x h = absurd (grind (arith, nat_tests))
get_set_other (y ∷ xs) zero (suc j) x h = refl
get_set_other (y ∷ xs) (suc i) zero x h = refl
get_set_other (y ∷ xs) (suc i) (suc j) x h = get_set_other xs i j x (grind (arith, nat_tests))

pub takes : (old : List (List Mark)) (s : Stamp) (m : Mark) (row row' : List Mark) → slice_get old s.worker ≡ Some row → s.worker < length old → slice_get row s.step ≡ Some Open → s.step < length row → row' ≡ slice_set row s.step m → Takes old s m (slice_set old s.worker row')
takes old s m row row' at room free inside is = record { free = ap (λ r. in_row r s.step) at ∙ free; after = after }
  where
    new : List (List Mark)
    new = slice_set old s.worker row'

    same_row : in_row (slice_get new s.worker) s.step ≡ Some m
    same_row = ap (λ r. in_row r s.step) (get_set_same old s.worker row' room) ∙ (ap (λ r. slice_get r s.step) is ∙ get_set_same row s.step m inside)

    by_step : (t : Stamp) → t.worker ≡ s.worker → (b : Bool) → (t.step == s.step) ≡ b → at_stamp new t ≡ (if b then Some m else at_stamp old t)
    by_step t w true same =
        let k : t.step ≡ s.step = grind (arith, nat_tests) in
        ap (λ i. in_row (slice_get new i) t.step) w ∙ (ap (in_row (slice_get new s.worker)) k ∙ same_row)
    by_step t w false other =
        ap (λ i. in_row (slice_get new i) t.step) w
        ∙ (ap (λ r. in_row r t.step) (get_set_same old s.worker row' room)
        ∙ (ap (λ r. slice_get r t.step) is
        ∙ (get_set_other row s.step t.step m other
        ∙ (sym (ap (λ r. in_row r t.step) at) ∙ sym (ap (λ i. in_row (slice_get old i) t.step) w)))))

    by_worker : (t : Stamp) → (b : Bool) → (t.worker == s.worker) ≡ b → at_stamp new t ≡ (if b && (t.step == s.step) then Some m else at_stamp old t)
    by_worker t true same = by_step t (grind (arith, nat_tests)) (t.step == s.step) refl
    by_worker t false other = ap (λ r. in_row r t.step) (get_set_other old s.worker t.worker row' other)

    after : (t : Stamp) → at_stamp new t ≡ (if is_stamp t s then Some m else at_stamp old t)
    after t = by_worker t (t.worker == s.worker) refl

pub taken : (old : List (List Mark)) (s : Stamp) (m : Mark) (row row' : List Mark) (b : Bool) → s.worker < length old → row ≡ get_or old s.worker row
    → MatchBool b ((slice_get row s.step ≡ Some Open) × (row' ≡ slice_set row s.step m)) ((slice_get row s.step ≢ Some Open) × (row' ≡ row))
    → MatchBool b (Takes old s m (slice_set old s.worker row')) ((at_stamp old s ≢ Some Open) × (slice_set old s.worker row' ≡ old))
taken old s m row row' true room is h =
    takes old s m row row' (slice_get_read old (length old) s.worker row refl room is) room h.0 (slice_get_within row s.step Open h.0) h.1
taken old s m row row' false room is h =
    let at : slice_get old s.worker ≡ Some row = slice_get_read old (length old) s.worker row refl room is in
    (λ marked. h.0 (sym (ap (λ r. in_row r s.step) at) ∙ marked), ap (slice_set old s.worker) (h.1 ∙ is) ∙ set-get_or old s.worker row)
