-- References that are declared, one by one.
use Rattle.std.proofs.Common.{◌≡◌, ℕ, ◌<◌, ◌+◌, ◌++◌, ◌∷◌, ◌&&◌, ◌||◌, [], Bool, cond, false, is_some, not, true, List, Option, None, Some, Result, Ok, Err, take, drop, drop-cons, get_or, length, zero, suc, refl, ap, sym, ◌∙◌, add-one, slice_get}
use Rattle.ref_value.specs.Edn.{Edn}
use Rattle.ref_log.specs.Tally.{IsMoved, is_count, start_of}
use Rattle.ref_log.specs.TallyLaws.{start-append, start-made}
use Rattle.ref_log.specs.declared.faults.MakeFault.{MakeFault}
use Rattle.ref_log.specs.declared.notices.Who.{Who}
use Rattle.ref_world.specs.Starts.{first_refused, made_all, refusal_of}

-- After a refusal nothing is made.
refused_stays : {S Store : Type 0} (make : S → Store → Result Store (Who × MakeFault)) (ss : List S) (e : Who × MakeFault) → made_all make ss (Err e) ≡ Err e
refused_stays make [] e = refl
refused_stays make (s ∷ ss) e = refused_stays make ss e

first_left : {X : Type 0} (xs : List X) (i : ℕ) (x : X) → i < length xs → x ≡ get_or xs i x → drop i xs ≡ x ∷ drop (i + 1) xs
first_left {X = X} xs i x below is = rw (add-one) (drop-cons xs i x below ∙ ap (λ y. y ∷ drop (suc i) xs) (sym is))

-- one that can't be made, among all
pub one_fails : {S Store : Type 0} (make : S → Store → Result Store (Who × MakeFault)) (ss : List S) (i : ℕ) (s : S) (store : Store) (whole : Result Store (Who × MakeFault)) (e : Who × MakeFault)
    → made_all make (drop i ss) (Ok store) ≡ whole → i < length ss → s ≡ get_or ss i s → make s store ≡ Err e → whole ≡ Err e
one_fails make ss i s store whole e so_far below is fails =
    sym so_far ∙ (ap (λ l. made_all make l (Ok store)) (first_left ss i s below is) ∙ (ap (made_all make (drop (i + 1) ss)) fails ∙ refused_stays make (drop (i + 1) ss) e))

-- one that could be made, among all: the first of those that are left
pub one_short : {S Store : Type 0} (make : S → Store → Result Store (Who × MakeFault)) (ss : List S) (i : ℕ) (s : S) (store : Store) (next : Option (Who × MakeFault))
    → i < length ss → s ≡ get_or ss i s → refusal_of (make s store) ≡ None → first_refused make (drop i ss) store next ≡ None
one_short make ss i s store next below is fine = ap (λ l. first_refused make l store next) (first_left ss i s below is) ∙ fine

-- Where all were made, the first was.
pub first_made : {S Store : Type 0} (make : S → Store → Result Store (Who × MakeFault)) (ss : List S) (store after : Store) (next : Option (Who × MakeFault))
    → made_all make ss (Ok store) ≡ Ok after → next ≡ None → first_refused make ss store next ≡ None
first_made {Store = Store} make [] store after next made none = none
first_made {Store = Store} make (s ∷ ss) store after next made none = by (make s store) made where
  by : (r : Result Store (Who × MakeFault)) → made_all make ss r ≡ Ok after → refusal_of r ≡ None
  by (Ok x) e = refl
  by (Err x) e = let stays = refused_stays make ss x in absurd cc

-- Where a ref is made, the tally begins with a count, as before.
pub is_count_of : (some count : Bool) → (some || not count) ≡ false → count ≡ true
is_count_of true count e = absurd cc
is_count_of false true e = refl
is_count_of false false e = absurd cc

pub begins : (values : List Edn) (v : Edn) (tally : Option ℕ) (b : Bool) → (b && (is_some tally || not (is_count (v ∷ [])))) ≡ false → IsMoved tally values (start_of tally values) 0 0
    → IsMoved (cond b (Some (length values)) tally) (values ++ v ∷ []) (start_of (cond b (Some (length values)) tally) (values ++ v ∷ [])) 0 0
begins values v tally false good is = start-append tally values v is
begins values v tally true good is = start-made values v (is_count_of (is_some tally) (is_count (v ∷ [])) good)

-- One element more of a list.
pub take_next : {X : Type 0} (xs : List X) (i : ℕ) (x : X) → slice_get xs i ≡ Some x → take (i + 1) xs ≡ take i xs ++ x ∷ []
take_next {X = X} xs i x is = rw (add-one) (by xs i is) where
  by : (ys : List X) (k : ℕ) → slice_get ys k ≡ Some x → take (suc k) ys ≡ take k ys ++ x ∷ []
  by [] k e = absurd cc
  by (y ∷ ys) zero e = ap (λ z. z ∷ []) cc
  by (y ∷ ys) (suc k) e = ap (λ l. y ∷ l) (by ys k e)
