-- The refs after changes that a snapshot has yet to take.
use Rattle.std.proofs.Common.{◌≡◌, ℕ, zero, suc, ◌<◌, ◌≤◌, ◌==◌, ◌++◌, ◌⊎◌, inl, inr, Bool, true, false, if◌then◌else◌, List, [], ◌∷◌, length, None, Some, slice_get, slice_set, refl, sym, ap, ◌∙◌, arith}
use Rattle.std.specs.Option.{option_map, option_or}
use Rattle.std.proofs.lemmas.Bool.{cases_lt, eqb-false, eqb-true}
use Rattle.std.proofs.lemmas.List.{length-set}
use Rattle.std.proofs.lemmas.Option.{slice_get_past}
use Rattle.ref_tx.specs.Snapshots.{SnapshotSeen}
use Rattle.ref_tx.specs.declared.snapshots.Version.{Version}
use Rattle.ref_refs.specs.declared.late.Item.{Item}
use Rattle.ref_refs.specs.Late.{all_taken, latest_of, taken}

-- ---- as many refs

pub all_values : (is : List Item) (s : SnapshotSeen) → length (all_taken is s).values ≡ length s.values
all_values [] s = refl
all_values (i ∷ is) s = length-set (all_taken is s).values i.r i.version.value ∙ all_values is s

pub all_lasts : (is : List Item) (s : SnapshotSeen) → length (all_taken is s).lasts ≡ length s.lasts
all_lasts [] s = refl
all_lasts (i ∷ is) s = length-set (all_taken is s).lasts i.r i.version.changed_at ∙ all_lasts is s

-- ---- one ref

set_here : {V : Type 0} (xs : List V) (i : ℕ) (v : V) → i < length xs → slice_get (slice_set xs i v) i ≡ Some v
set_here [] i v below = absurd (omega (arith, below))
set_here (x ∷ xs) zero v below = refl
set_here (x ∷ xs) (suc i) v below = set_here xs i v (omega (arith, below))

set_other : {V : Type 0} (xs : List V) (i r : ℕ) (v : V) → (i ≡ r → ⊥) → slice_get (slice_set xs i v) r ≡ slice_get xs r
set_other [] i r v other = refl
set_other (x ∷ xs) zero zero v other = absurd (other refl)
set_other (x ∷ xs) zero (suc r) v other = refl
set_other (x ∷ xs) (suc i) zero v other = refl
set_other (x ∷ xs) (suc i) (suc r) v other = set_other xs i r v (λ same. other (ap suc same))

-- a list after one change
one : {V : Type 0} (of : Version → V) (xs : List V) (is : List Item) (i : Item) (r : ℕ) (settled : List V) → r < length xs
    → slice_get xs r ≡ option_or (option_map of (latest_of is r)) (slice_get settled r)
    → slice_get (slice_set xs i.r (of i.version)) r ≡ option_or (option_map of (latest_of (i ∷ is) r)) (slice_get settled r)
one of xs is i r settled below so_far = by (i.r == r) refl
  where
    by : (b : Bool) → (i.r == r) ≡ b → slice_get (slice_set xs i.r (of i.version)) r ≡ option_or (option_map of (if b then Some i.version else latest_of is r)) (slice_get settled r)
    by true here = ap (λ n. slice_get (slice_set xs n (of i.version)) r) (eqb-true i.r r here) ∙ set_here xs r (of i.version) below
    by false other = set_other xs i.r r (of i.version) (eqb-false i.r r other) ∙ so_far

pub value_at : (is : List Item) (s : SnapshotSeen) (r : ℕ) → r < length s.values → slice_get (all_taken is s).values r ≡ option_or (option_map (λ v. v.value) (latest_of is r)) (slice_get s.values r)
value_at [] s r below = refl
value_at (i ∷ is) s r below = one (λ v. v.value) (all_taken is s).values is i r s.values (omega (arith, below, all_values is s)) (value_at is s r below)

pub last_at : (is : List Item) (s : SnapshotSeen) (r : ℕ) → r < length s.lasts → slice_get (all_taken is s).lasts r ≡ option_or (option_map (λ v. v.changed_at) (latest_of is r)) (slice_get s.lasts r)
last_at [] s r below = refl
last_at (i ∷ is) s r below = one (λ v. v.changed_at) (all_taken is s).lasts is i r s.lasts (omega (arith, below, all_lasts is s)) (last_at is s r below)

within : {X : Type 0} (ys : List X) (n : ℕ) → n < length ys → slice_get ys n ≡ None → ⊥
within [] n low e = omega (arith, low)
within (y ∷ ys) zero low e = cc
within (y ∷ ys) (suc n) low e = within ys n (omega (arith, low)) e

none_past : {X : Type 0} (xs : List X) (r : ℕ) → slice_get xs r ≡ None → length xs ≤ r
none_past xs r none = by (cases_lt r (length xs))
  where
    by : (r < length xs) ⊎ (length xs ≤ r) → length xs ≤ r
    by (inl below) = absurd (within xs r below none)
    by (inr past) = past

pub value_none : (is : List Item) (s : SnapshotSeen) (r : ℕ) → slice_get s.values r ≡ None → None ≡ slice_get (all_taken is s).values r
value_none is s r none = sym (slice_get_past (all_taken is s).values r (omega (arith, none_past s.values r none, all_values is s)))

pub last_none : (is : List Item) (s : SnapshotSeen) (r : ℕ) → slice_get s.lasts r ≡ None → None ≡ slice_get (all_taken is s).lasts r
last_none is s r none = sym (slice_get_past (all_taken is s).lasts r (omega (arith, none_past s.lasts r none, all_lasts is s)))

-- ---- later changes over earlier ones

pub taken_append : (is js : List Item) (s : SnapshotSeen) → all_taken (is ++ js) s ≡ all_taken is (all_taken js s)
taken_append [] js s = refl
taken_append (i ∷ is) js s = ap (λ t. taken t i) (taken_append is js s)
