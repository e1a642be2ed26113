-- A list, of forms mostly, that is made one by one: those that are made and those that are left are all of it.
use Rattle.std.proofs.Common.{◌≡◌, ℕ, zero, suc, ◌+◌, ◌<◌, ◌≤◌, List, [], ◌∷◌, ◌++◌, None, Some, refl, sym, ap, subst, ◌∙◌, arith, drop, get_or, length, add-one, append_assoc}
use Rattle.std.specs.List.{zip}
use Rattle.std.specs.Prelude.{slice_get}
use Rattle.std.proofs.lemmas.List.{append-nil}
use Rattle.ref_value.specs.Edn.{Edn, vector, nesting, items_of, items_depth}
use Rattle.ref_audit.proofs.Depths.{deeper_fault}
use Rattle.ref_audit.specs.Made.{IsMakeFault}
use Rattle.ref_audit.specs.declared.faults.DumpMakeFault.{DumpMakeFault}

-- ---- what is left of a list from a place on

pub left_at : {X : Type 0} (xs : List X) (i : ℕ) (x : X) → slice_get xs i ≡ Some x → drop i xs ≡ x ∷ drop (i + 1) xs
left_at [] i x there = absurd cc
left_at (y ∷ xs) zero x there =
    let same : y ≡ x = cc in
    ap (λ z. z ∷ xs) same
left_at (y ∷ xs) (suc i) x there =
    let rest : drop i xs ≡ x ∷ drop (suc i) xs = rw add-one at (left_at xs i x there) in
    rw add-one rest

pub left_end : {X : Type 0} (xs : List X) (i : ℕ) → slice_get xs i ≡ None → drop i xs ≡ []
left_end [] zero none = refl
left_end [] (suc i) none = refl
left_end (x ∷ xs) zero none = absurd cc
left_end (x ∷ xs) (suc i) none = left_end xs i none

pub there_at : {X : Type 0} (xs : List X) (i : ℕ) (x : X) → i < length xs → x ≡ get_or xs i x → slice_get xs i ≡ Some x
there_at [] i x below is = absurd (omega arith)
there_at (y ∷ xs) zero x below is = ap Some (sym is)
there_at (y ∷ xs) (suc i) x below is = there_at xs i x (omega arith) is

pub number_at : (xs : List ℕ) (i : ℕ) → i < length xs → slice_get xs i ≡ Some (get_or xs i 0)
number_at [] i below = absurd (omega arith)
number_at (x ∷ xs) zero below = refl
number_at (x ∷ xs) (suc i) below = number_at xs i (omega arith)

pub zipped_at : {X Y : Type 0} (xs : List X) (ys : List Y) (i : ℕ) (x : X) (y : Y) → slice_get xs i ≡ Some x → slice_get ys i ≡ Some y → zip (drop i xs) (drop i ys) ≡ (x, y) ∷ zip (drop (i + 1) xs) (drop (i + 1) ys)
zipped_at xs ys i x y there also = rw (left_at xs i x there, left_at ys i y also) refl

-- ---- one more

pub one_more : {X : Type 0} (all made next rest left : List X) (v form : X) → made ++ rest ≡ all → rest ≡ form ∷ left → v ≡ form → next ≡ made ++ v ∷ [] → next ++ left ≡ all
one_more all made next rest left v form whole first same more =
    rw (more, same) (append_assoc made (form ∷ []) left ∙ (ap (λ r. made ++ r) (sym first) ∙ whole))

pub all_made : {X : Type 0} (all made rest : List X) → made ++ rest ≡ all → rest ≡ [] → made ≡ all
all_made all made rest whole none = sym (append-nil made) ∙ (ap (λ r. made ++ r) (sym none) ∙ whole)

depth_of_member : (made left : List Edn) (form : Edn) → nesting form ≤ items_depth (items_of (made ++ form ∷ left))
depth_of_member [] left form = omega arith
depth_of_member (m ∷ made) left form = omega (arith, depth_of_member made left form)

-- What the next form is too deep for, all of them are.
pub fault_of_next : (all made rest left : List Edn) (form : Edn) (fault : DumpMakeFault) → made ++ rest ≡ all → rest ≡ form ∷ left → IsMakeFault (nesting form) fault → IsMakeFault (nesting (vector (items_of all))) fault
fault_of_next all made rest left form fault whole first is =
    let is_all : made ++ form ∷ left ≡ all = ap (λ r. made ++ r) (sym first) ∙ whole in
    let deep : nesting form ≤ items_depth (items_of all) = subst (λ (l : List Edn). nesting form ≤ items_depth (items_of l)) is_all (depth_of_member made left form) in
    deeper_fault (nesting form) (suc (items_depth (items_of all))) fault (omega arith) is
