-- Laws: members ascend in value order exactly where their list is strictly sorted by it.
use Rattle.std.proofs.Common.{◌≡◌, true, List, [], ◌∷◌, refl, ap}
use Rattle.std.specs.Prelude.{IsTrue}
use Rattle.std.specs.List.Sorted.{IsStrictlySortedBy}
use Rattle.std.specs.Ordering.{is_lt}
use Rattle.std.specs.declared.cmp.Ordering.{Ordering}
use Rattle.std.specs.declared.cmp.Ordering.TheVariants.{Less, Equal, Greater}
use Rattle.std.specs.Cmp.{IsTotalOrder, on_total}
use Rattle.std.proofs.lemmas.Bool.{and_parts, and_from}
use Rattle.ref_value.specs.Edn.{Edn, items_of, entries_of}
use Rattle.ref_value.specs.Order.{edn_cmp, elements_ascend, keys_ascend}
use Rattle.ref_value.specs.OrderLaws.{edn_cmp_total}
use Rattle.ref_value.specs.SortedLists.{sorted_cons}

-- ---- elements

is_less : (r : Ordering) → is_lt r ≡ true → r ≡ Less
is_less Less e = refl
is_less Equal e = absurd cc
is_less Greater e = absurd cc

pub sorted_from_ascend : (xs : List Edn) → IsTrue (elements_ascend (items_of xs)) → IsStrictlySortedBy edn_cmp xs
unfolding IsStrictlySortedBy
sorted_from_ascend [] h = tt
sorted_from_ascend (x ∷ []) h = (tt, tt)
sorted_from_ascend (x ∷ y ∷ ys) h =
    let p : (is_lt (edn_cmp x y) ≡ true) × (elements_ascend (items_of (y ∷ ys)) ≡ true) = and_parts _ _ h in
    sorted_cons edn_cmp_total x y ys (is_less (edn_cmp x y) p.0) (sorted_from_ascend (y ∷ ys) p.1)

pub ascend_from_sorted : (xs : List Edn) → IsStrictlySortedBy edn_cmp xs → IsTrue (elements_ascend (items_of xs))
unfolding IsStrictlySortedBy
ascend_from_sorted [] h = refl
ascend_from_sorted (x ∷ []) h = refl
ascend_from_sorted (x ∷ y ∷ ys) h = and_from _ _ (ap is_lt h.0.0) (ascend_from_sorted (y ∷ ys) h.1)

-- ---- entries

abbrev pub by_key : Edn × Edn → Edn × Edn → Ordering
by_key e f = edn_cmp e.0 f.0

pub by_key_total : IsTotalOrder by_key
by_key_total = on_total (λ (e : Edn × Edn). e.0) edn_cmp_total

pub sorted_from_keys_ascend : (es : List (Edn × Edn)) → IsTrue (keys_ascend (entries_of es)) → IsStrictlySortedBy by_key es
unfolding IsStrictlySortedBy
sorted_from_keys_ascend [] h = tt
sorted_from_keys_ascend (e ∷ []) h = (tt, tt)
sorted_from_keys_ascend (e ∷ f ∷ fs) h =
    let p : (is_lt (edn_cmp e.0 f.0) ≡ true) × (keys_ascend (entries_of (f ∷ fs)) ≡ true) = and_parts _ _ h in
    sorted_cons by_key_total e f fs (is_less (edn_cmp e.0 f.0) p.0) (sorted_from_keys_ascend (f ∷ fs) p.1)

pub keys_ascend_from_sorted : (es : List (Edn × Edn)) → IsStrictlySortedBy by_key es → IsTrue (keys_ascend (entries_of es))
unfolding IsStrictlySortedBy
keys_ascend_from_sorted [] h = refl
keys_ascend_from_sorted (e ∷ []) h = refl
keys_ascend_from_sorted (e ∷ f ∷ fs) h = and_from _ _ (ap is_lt h.0.0) (keys_ascend_from_sorted (f ∷ fs) h.1)
