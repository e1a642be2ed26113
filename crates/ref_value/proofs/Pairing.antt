-- Single members as pairs, and back, where the list is changed or taken in parts.
use Rattle.std.proofs.Common.{◌≡◌, ◌<◌, ◌≤◌, ℕ, zero, suc, ◌-◌, List, [], ◌∷◌, ◌++◌, length, take, drop, get_or, refl, sym, ap, ◌∙◌, arith}
use Rattle.std.specs.Prelude.{◌&&◌}
use Rattle.std.specs.List.{insert, remove}
use Rattle.std.specs.Ordering.{is_lt}
use Rattle.std.proofs.lemmas.List.{take_rest}
use Rattle.ref_value.specs.Edn.{Edn, items_of, items_depth, entries_of}
use Rattle.ref_value.specs.Deepest.{IsDeepestEntry}
use Rattle.ref_value.specs.Lawful.{AreLawful, AreLawfulEntries}
use Rattle.ref_value.specs.Members.{twins, singles, AreTwins}
use Rattle.ref_value.specs.Most.{depth_of_twins}
use Rattle.ref_value.specs.Order.{edn_cmp, elements_ascend, keys_ascend}

-- ---- each value with itself

pub length_twins : (xs : List Edn) → length (twins xs) ≡ length xs
length_twins [] = refl
length_twins (x ∷ xs) = ap suc (length_twins xs)

pub twins_at : (xs : List Edn) (i : ℕ) (x : Edn) → i < length xs → x ≡ get_or xs i x → (x, x) ≡ get_or (twins xs) i (x, x)
twins_at [] i x h e = absurd (omega arith)
twins_at (y ∷ ys) zero x h e = ap (λ z. (z, z)) e
twins_at (y ∷ ys) (suc i) x h e = twins_at ys i x (omega arith) e

pub twins_insert : (xs : List Edn) (i : ℕ) (x : Edn) → twins (insert xs i x) ≡ insert (twins xs) i (x, x)
twins_insert xs zero x = refl
twins_insert [] (suc i) x = refl
twins_insert (y ∷ ys) (suc i) x = ap (λ zs. (y, y) ∷ zs) (twins_insert ys i x)

pub twins_remove : (xs : List Edn) (i : ℕ) → twins (remove xs i) ≡ remove (twins xs) i
twins_remove [] zero = refl
twins_remove [] (suc i) = refl
twins_remove (y ∷ ys) zero = refl
twins_remove (y ∷ ys) (suc i) = ap (λ zs. (y, y) ∷ zs) (twins_remove ys i)

pub twins_append : (xs ys : List Edn) → twins (xs ++ ys) ≡ twins xs ++ twins ys
twins_append [] ys = refl
twins_append (x ∷ xs) ys = ap (λ zs. (x, x) ∷ zs) (twins_append xs ys)

pub twins_take : (n : ℕ) (xs : List Edn) → twins (take n xs) ≡ take n (twins xs)
twins_take zero xs = refl
twins_take (suc n) [] = refl
twins_take (suc n) (x ∷ xs) = ap (λ zs. (x, x) ∷ zs) (twins_take n xs)

pub twins_same : (n : ℕ) (xs ys : List Edn) → take n xs ≡ take n ys → take n (twins xs) ≡ take n (twins ys)
twins_same n xs ys same = sym (twins_take n xs) ∙ ap twins same ∙ twins_take n ys

twins_drop : (n : ℕ) (xs : List Edn) → twins (drop n xs) ≡ drop n (twins xs)
twins_drop zero xs = refl
twins_drop (suc n) [] = refl
twins_drop (suc n) (x ∷ xs) = twins_drop n xs

-- A slice from a place on is taken by its length.
pub twins_rest : (xs : List Edn) (n : ℕ) → twins (take (length xs - n) (drop n xs)) ≡ drop n (twins xs)
twins_rest xs n = ap twins (take_rest xs n) ∙ twins_drop n xs

pub pairs_rest : (es : List (Edn × Edn)) (n : ℕ) → take (length es - n) (drop n es) ≡ drop n es
pairs_rest es n = take_rest es n

lawful_twins : (xs : List Edn) → AreLawful (items_of xs) → AreLawfulEntries (entries_of (twins xs))
lawful_twins [] h = tt
lawful_twins (x ∷ xs) h = (h.0, h.0, lawful_twins xs h.1)

pub singles_twins : (xs : List Edn) → singles (twins xs) ≡ xs
singles_twins [] = refl
singles_twins (x ∷ xs) = ap (λ zs. x ∷ zs) (singles_twins xs)

pub twins_are : (xs : List Edn) → AreTwins (twins xs)
twins_are [] = tt
twins_are (x ∷ xs) = (refl, twins_are xs)

pub twins_deepest : (d : ℕ) (xs : List Edn) → d ≡ items_depth (items_of xs) → d ≤ 64 → AreLawful (items_of xs) → IsDeepestEntry d (twins xs)
twins_deepest d xs e b h = record {
  value = e ∙ ap (λ ys. items_depth (items_of ys)) (sym (singles_twins xs)) ∙ sym (depth_of_twins (twins xs) (twins_are xs));
  bound = b;
  lawful = lawful_twins xs h;
}

-- ---- the first of each pair

pub length_singles : (es : List (Edn × Edn)) → length (singles es) ≡ length es
length_singles [] = refl
length_singles (e ∷ es) = ap suc (length_singles es)

pub singles_at : (es : List (Edn × Edn)) (i : ℕ) (x y : Edn) → i < length es → (x, y) ≡ get_or es i (x, y) → x ≡ get_or (singles es) i x
singles_at [] i x y h e = absurd (omega arith)
singles_at (f ∷ fs) zero x y h e = ap (λ p. p.0) e
singles_at (f ∷ fs) (suc i) x y h e = singles_at fs i x y (omega arith) e

pub singles_insert : (es : List (Edn × Edn)) (i : ℕ) (x : Edn) → singles (insert es i (x, x)) ≡ insert (singles es) i x
singles_insert es zero x = refl
singles_insert [] (suc i) x = refl
singles_insert (e ∷ es) (suc i) x = ap (λ ys. e.0 ∷ ys) (singles_insert es i x)

pub singles_remove : (es : List (Edn × Edn)) (i : ℕ) → singles (remove es i) ≡ remove (singles es) i
singles_remove [] zero = refl
singles_remove [] (suc i) = refl
singles_remove (e ∷ es) zero = refl
singles_remove (e ∷ es) (suc i) = ap (λ ys. e.0 ∷ ys) (singles_remove es i)

pub singles_drop : (n : ℕ) (es : List (Edn × Edn)) → singles (drop n es) ≡ drop n (singles es)
singles_drop zero es = refl
singles_drop (suc n) [] = refl
singles_drop (suc n) (e ∷ es) = singles_drop n es

pub are_twins_insert : (es : List (Edn × Edn)) (i : ℕ) (x : Edn) → AreTwins es → AreTwins (insert es i (x, x))
are_twins_insert es zero x h = (refl, h)
are_twins_insert [] (suc i) x h = (refl, tt)
are_twins_insert (e ∷ es) (suc i) x h = (h.0, are_twins_insert es i x h.1)

pub are_twins_remove : (es : List (Edn × Edn)) (i : ℕ) → AreTwins es → AreTwins (remove es i)
are_twins_remove [] zero h = tt
are_twins_remove [] (suc i) h = tt
are_twins_remove (e ∷ es) zero h = h.1
are_twins_remove (e ∷ es) (suc i) h = (h.0, are_twins_remove es i h.1)

pub lawful_singles : (es : List (Edn × Edn)) → AreLawfulEntries (entries_of es) → AreLawful (items_of (singles es))
lawful_singles [] h = tt
lawful_singles (e ∷ es) h = (h.0, lawful_singles es h.2)

pub singles_deepest : (d : ℕ) (es : List (Edn × Edn)) → AreTwins es → IsDeepestEntry d es → (d ≡ items_depth (items_of (singles es))) × (d ≤ 64) × AreLawful (items_of (singles es))
singles_deepest d es t h = (h.value ∙ depth_of_twins es t, h.bound, lawful_singles es h.lawful)

pub singles_ascend : (es : List (Edn × Edn)) → keys_ascend (entries_of es) ≡ elements_ascend (items_of (singles es))
singles_ascend [] = refl
singles_ascend (e ∷ []) = refl
singles_ascend (e ∷ f ∷ fs) = ap (λ b. is_lt (edn_cmp e.0 f.0) && b) (singles_ascend (f ∷ fs))
