-- The deepest member of a list where one is put in, taken out or replaced, and of two lists.
use Rattle.std.proofs.Common.{◌≡◌, ◌≤◌, ◌<◌, ℕ, zero, suc, List, [], ◌∷◌, ◌++◌, arith, ◌⊎◌, inl, inr, get_or, length}
use Rattle.std.specs.Prelude.{max, insert, remove, slice_set}
use Rattle.ref_value.specs.Edn.{Edn, nesting, entries_depth, entries_of}
use Rattle.ref_value.specs.Lawful.{IsLawful, HasLawfulParts, AreLawfulEntries}
use Rattle.ref_value.specs.Deepest.{IsDeepestEntry}
use Rattle.ref_value.specs.Members.{twins}
use Rattle.ref_value.specs.Most.{depth_both}
use Rattle.ref_value.proofs.Pairing.{twins_at, length_twins}

-- ---- pairs

abbrev deeper : Edn × Edn → ℕ
deeper e = max (nesting e.0) (nesting e.1)

depth_insert_pair : (es : List (Edn × Edn)) (i : ℕ) (e : Edn × Edn) → entries_depth (entries_of (insert es i e)) ≡ max (entries_depth (entries_of es)) (deeper e)
depth_insert_pair es zero e = omega arith
depth_insert_pair [] (suc i) e = omega arith
depth_insert_pair (f ∷ fs) (suc i) e = omega (arith, depth_insert_pair fs i e)

lawful_insert_pair : (es : List (Edn × Edn)) (i : ℕ) (e : Edn × Edn) → AreLawfulEntries (entries_of es) → HasLawfulParts e.0 → HasLawfulParts e.1 → AreLawfulEntries (entries_of (insert es i e))
lawful_insert_pair es zero e h p q = (p, q, h)
lawful_insert_pair [] (suc i) e h p q = (p, q, tt)
lawful_insert_pair (f ∷ fs) (suc i) e h p q = (h.0, h.1, lawful_insert_pair fs i e h.2 p q)

pub insert_deepest_pair : (d : ℕ) (es : List (Edn × Edn)) (i : ℕ) (e : Edn × Edn) → IsDeepestEntry d es → IsLawful e.0 → IsLawful e.1 → IsDeepestEntry (max d (max (nesting e.0) (nesting e.1))) (insert es i e)
insert_deepest_pair d es i e h p q = record {
  value = omega (arith, h.value, depth_insert_pair es i e);
  bound = omega (arith, h.bound, p.shallow, q.shallow);
  lawful = lawful_insert_pair es i e h.lawful p.parts q.parts;
}

depth_at_pair : (es : List (Edn × Edn)) (i : ℕ) (d : Edn × Edn) → i < length es → entries_depth (entries_of es) ≡ max (deeper (get_or es i d)) (entries_depth (entries_of (remove es i)))
depth_at_pair [] i d h = absurd (omega arith)
depth_at_pair (f ∷ fs) zero d h = omega arith
depth_at_pair (f ∷ fs) (suc i) d h = omega (arith, depth_at_pair fs i d (omega arith))

lawful_remove_pair : (es : List (Edn × Edn)) (i : ℕ) → AreLawfulEntries (entries_of es) → AreLawfulEntries (entries_of (remove es i))
lawful_remove_pair [] zero h = tt
lawful_remove_pair [] (suc i) h = tt
lawful_remove_pair (f ∷ fs) zero h = h.2
lawful_remove_pair (f ∷ fs) (suc i) h = (h.0, h.1, lawful_remove_pair fs i h.2)

pub remove_deepest_pair : (d : ℕ) (es : List (Edn × Edn)) (i : ℕ) (e : Edn × Edn) → i < length es → e ≡ get_or es i e → (deeper e ≡ 0) ⊎ (deeper e < d) → IsDeepestEntry d es → IsDeepestEntry d (remove es i)
remove_deepest_pair d es i e less is shallow h =
    let at : entries_depth (entries_of es) ≡ max (deeper (get_or es i e)) (entries_depth (entries_of (remove es i))) = depth_at_pair es i e less in
    let depths = rw (← is) at at in
    record {
      value = elim shallow [ inl flat ↦ omega (arith, h.value, depths, flat) | inr below ↦ omega (arith, h.value, depths, below) ];
      bound = h.bound;
      lawful = lawful_remove_pair es i h.lawful;
    }

-- ---- a value, as a pair with itself

pub insert_deepest_twin : (d : ℕ) (es : List (Edn × Edn)) (i : ℕ) (x : Edn) → IsDeepestEntry d es → IsLawful x → IsDeepestEntry (max d (nesting x)) (insert es i (x, x))
insert_deepest_twin d es i x h p = record {
  value = omega (arith, h.value, depth_insert_pair es i (x, x));
  bound = omega (arith, h.bound, p.shallow);
  lawful = lawful_insert_pair es i (x, x) h.lawful p.parts p.parts;
}

pub remove_deepest_twin : (d : ℕ) (xs : List Edn) (i : ℕ) (x : Edn) → i < length (twins xs) → x ≡ get_or xs i x → (nesting x ≡ 0) ⊎ (nesting x < d) → IsDeepestEntry d (twins xs)
    → IsDeepestEntry d (remove (twins xs) i)
remove_deepest_twin d xs i x less is shallow h =
    let same : (deeper (x, x) ≡ 0) ⊎ (deeper (x, x) < d) = elim shallow [ inl flat ↦ inl (omega (arith, flat)) | inr below ↦ inr (omega (arith, below)) ] in
    remove_deepest_pair d (twins xs) i (x, x) less (twins_at xs i x (omega (arith, length_twins xs)) is) same h

-- ---- a pair in the place of another

depth_set : (es : List (Edn × Edn)) (i : ℕ) (e : Edn × Edn) → i < length es → entries_depth (entries_of (slice_set es i e)) ≡ max (deeper e) (entries_depth (entries_of (remove es i)))
depth_set [] i e h = absurd (omega arith)
depth_set (f ∷ fs) zero e h = omega arith
depth_set (f ∷ fs) (suc i) e h = omega (arith, depth_set fs i e (omega arith))

lawful_set : (es : List (Edn × Edn)) (i : ℕ) (e : Edn × Edn) → AreLawfulEntries (entries_of es) → HasLawfulParts e.0 → HasLawfulParts e.1 → AreLawfulEntries (entries_of (slice_set es i e))
lawful_set [] i e h p q = tt
lawful_set (f ∷ fs) zero e h p q = (p, q, h.2)
lawful_set (f ∷ fs) (suc i) e h p q = (h.0, h.1, lawful_set fs i e h.2 p q)

pub set_deepest : (d : ℕ) (es : List (Edn × Edn)) (i : ℕ) (old e : Edn × Edn) → i < length es → old ≡ get_or es i old → (d ≤ deeper e) ⊎ (deeper old < d) → IsDeepestEntry d es → IsLawful e.0 → IsLawful e.1
    → IsDeepestEntry (max d (max (nesting e.0) (nesting e.1))) (slice_set es i e)
set_deepest d es i old e less is shallow h p q =
    let at : entries_depth (entries_of es) ≡ max (deeper (get_or es i old)) (entries_depth (entries_of (remove es i))) = depth_at_pair es i old less in
    let depths = rw (← is) at at in
    record {
      value = elim shallow [ inl deep ↦ omega (arith, h.value, depths, depth_set es i e less, deep) | inr below ↦ omega (arith, h.value, depths, depth_set es i e less, below) ];
      bound = omega (arith, h.bound, p.shallow, q.shallow);
      lawful = lawful_set es i e h.lawful p.parts q.parts;
    }

-- ---- two lists

lawful_both : (xs ys : List (Edn × Edn)) → AreLawfulEntries (entries_of xs) → AreLawfulEntries (entries_of ys) → AreLawfulEntries (entries_of (xs ++ ys))
lawful_both [] ys h k = k
lawful_both (x ∷ xs) ys h k = (h.0, h.1, lawful_both xs ys h.2 k)

pub deepest_both : (a b : ℕ) (xs ys : List (Edn × Edn)) → IsDeepestEntry a xs → IsDeepestEntry b ys → IsDeepestEntry (max a b) (xs ++ ys)
deepest_both a b xs ys h k = record {
  value = omega (arith, h.value, k.value, depth_both xs ys);
  bound = omega (arith, h.bound, k.bound);
  lawful = lawful_both xs ys h.lawful k.lawful;
}
