-- Elements and entries that are put into value order one after another are those of the one sorted list.
use Rattle.std.proofs.Common.{◌≡◌, false, List, [], ◌∷◌, ◌++◌, refl, ap, ◌∙◌}
use Rattle.std.specs.Prelude.{IsTrue, IsPermutation}
use Rattle.std.specs.List.{IsDistinct}
use Rattle.std.specs.List.Sorted.{IsStrictlySortedBy}
use Rattle.std.specs.Ordering.{is_eq, match_ordering, eq_by_cmp}
use Rattle.std.specs.declared.cmp.Ordering.{Ordering}
use Rattle.std.specs.declared.cmp.Ordering.TheVariants.{Less, Equal, Greater}
use Rattle.std.specs.BTreeMap.{insert_entry}
use Rattle.std.specs.BTreeSet.{insert_key}
use Rattle.std.proofs.lemmas.Bool.{or_parts}
use Rattle.std.proofs.lemmas.List.{append-nil}
use Rattle.std.proofs.lemmas.List.Sorted.{IsPermutation-refl, IsPermutation-trans, IsPermutation-middle, IsPermutation-append_left, IsPermutation-sym}
use Rattle.std.proofs.lemmas.Map.Keys.{IsDistinct-from_sorted, IsDistinct-IsPermutation}
use Rattle.ref_value.specs.Edn.{Edn, Items, no_items, item, Entries, no_entries, entry, items_of, list_of, entries_of, pairs_of, list_of-items_of, pairs_of-entries_of}
use Rattle.ref_value.specs.Order.{edn_cmp, elements_ascend, keys_ascend}
use Rattle.ref_value.specs.OrderLaws.{edn_cmp_total}
use Rattle.ref_edn.specs.Grammar.{SortsElements, SortsEntries}
use Rattle.ref_edn.specs.Sorting.{inserts, NoneTwice, is_key_among, inserts_entries, NoKeyTwice}
use Rattle.ref_value.specs.AscendLaws.{sorted_from_ascend, ascend_from_sorted, by_key, by_key_total, sorted_from_keys_ascend, keys_ascend_from_sorted}
use Rattle.ref_value.specs.SortedLists.{insert_sorted, insert_moves, one_sorted, apart, flips}

-- ---- elements

inserts_sorted : (seen xs : List Edn) → IsStrictlySortedBy edn_cmp seen → IsStrictlySortedBy edn_cmp (inserts seen xs)
inserts_sorted seen [] s = s
inserts_sorted seen (x ∷ xs) s = inserts_sorted (insert_key edn_cmp seen x) xs (insert_sorted edn_cmp_total seen x s)

inserts_moves : (seen xs : List Edn) → NoneTwice seen xs → IsPermutation (seen ++ xs) (inserts seen xs)
inserts_moves seen [] h = rw append-nil (IsPermutation-refl seen)
inserts_moves seen (x ∷ xs) h = IsPermutation-trans _ _ _ (IsPermutation-middle seen x xs)
    (IsPermutation-trans _ _ _ (IsPermutation-append_left xs _ _ (insert_moves edn_cmp_total seen x h.0)) (inserts_moves (insert_key edn_cmp seen x) xs h.1))

none_twice : (seen xs : List Edn) → IsDistinct (eq_by_cmp edn_cmp) (seen ++ xs) → NoneTwice seen xs
none_twice seen [] d = tt
none_twice seen (x ∷ xs) d = let p = apart edn_cmp_total seen x xs d in (p.0, none_twice (insert_key edn_cmp seen x) xs p.1)

-- A list that was sorted, and then found to ascend strictly.
pub sorted_is : (xs ys : List Edn) → IsPermutation xs ys → IsTrue (elements_ascend (items_of ys)) → NoneTwice [] xs × (inserts [] xs ≡ ys)
unfolding IsStrictlySortedBy
sorted_is xs ys h up =
    let sorted = sorted_from_ascend ys up in
    let differ = IsDistinct-IsPermutation (eq_by_cmp edn_cmp) (flips edn_cmp_total) ys xs (IsPermutation-sym xs ys h) (IsDistinct-from_sorted edn_cmp ys sorted) in
    let none = none_twice [] xs differ in
    (none, one_sorted edn_cmp_total (inserts [] xs) ys (IsPermutation-trans _ _ _ (IsPermutation-sym _ _ (inserts_moves [] xs none)) h) (inserts_sorted [] xs tt) sorted)

pub sorts_of : (xs : List Edn) → NoneTwice [] xs → SortsElements (items_of xs) (items_of (inserts [] xs))
unfolding IsStrictlySortedBy
sorts_of xs h = record {
  same = rw (list_of-items_of xs, list_of-items_of (inserts [] xs)) (inserts_moves [] xs h);
  ascend = ascend_from_sorted (inserts [] xs) (inserts_sorted [] xs tt);
}

-- the same where the elements are those of a derivation
items_of-list_of : (xs : Items) → items_of (list_of xs) ≡ xs
items_of-list_of no_items = refl
items_of-list_of (item x xs) = ap (item x) (items_of-list_of xs)

pub items_sorts_again : (xs ys : Items) → SortsElements xs ys → NoneTwice [] (list_of xs) × (items_of (inserts [] (list_of xs)) ≡ ys)
items_sorts_again xs ys h =
    let p = sorted_is (list_of xs) (list_of ys) h.same (rw (items_of-list_of ys) h.ascend) in
    (p.0, ap items_of p.1 ∙ items_of-list_of ys)

-- ---- entries

-- Where no key equals it, an entry goes to its place as an element does.
insert_entry_is : (es : List (Edn × Edn)) (e : Edn × Edn) → is_key_among e.0 es ≡ false → insert_entry edn_cmp es e.0 e.1 ≡ insert_key by_key es e
insert_entry_is [] e h = refl
insert_entry_is (f ∷ fs) e h = let p = or_parts (eq_by_cmp by_key e f) (is_key_among e.0 fs) h in by (edn_cmp e.0 f.0) p.0 (insert_entry_is fs e p.1)
  where
    by : (r : Ordering) → is_eq r ≡ false → insert_entry edn_cmp fs e.0 e.1 ≡ insert_key by_key fs e
        → match_ordering r (e ∷ f ∷ fs) ((f.0, e.1) ∷ fs) (f ∷ insert_entry edn_cmp fs e.0 e.1) ≡ match_ordering r (e ∷ f ∷ fs) (f ∷ fs) (f ∷ insert_key by_key fs e)
    by Less q k = refl
    by Equal q k = absurd cc
    by Greater q k = ap (λ l. f ∷ l) k

entries_sorted : (seen es : List (Edn × Edn)) → NoKeyTwice seen es → IsStrictlySortedBy by_key seen → IsStrictlySortedBy by_key (inserts_entries seen es)
entries_sorted seen [] h s = s
entries_sorted seen (e ∷ es) h s = entries_sorted (insert_entry edn_cmp seen e.0 e.1) es h.1 (rw (insert_entry_is seen e h.0) (insert_sorted by_key_total seen e s))

entries_moves : (seen es : List (Edn × Edn)) → NoKeyTwice seen es → IsPermutation (seen ++ es) (inserts_entries seen es)
entries_moves seen [] h = rw append-nil (IsPermutation-refl seen)
entries_moves seen (e ∷ es) h =
    let moves = rw (← insert_entry_is seen e h.0) at (insert_moves by_key_total seen e h.0) in
    IsPermutation-trans _ _ _ (IsPermutation-middle seen e es) (IsPermutation-trans _ _ _ (IsPermutation-append_left es _ _ moves) (entries_moves (insert_entry edn_cmp seen e.0 e.1) es h.1))

no_key_twice : (seen es : List (Edn × Edn)) → IsDistinct (eq_by_cmp by_key) (seen ++ es) → NoKeyTwice seen es
no_key_twice seen [] d = tt
no_key_twice seen (e ∷ es) d =
    let p = apart by_key_total seen e es d in
    (p.0, no_key_twice (insert_entry edn_cmp seen e.0 e.1) es (rw (insert_entry_is seen e p.0) p.1))

pub sorted_entries_is : (es fs : List (Edn × Edn)) → IsPermutation es fs → IsTrue (keys_ascend (entries_of fs)) → NoKeyTwice [] es × (inserts_entries [] es ≡ fs)
unfolding IsStrictlySortedBy
sorted_entries_is es fs h up =
    let sorted = sorted_from_keys_ascend fs up in
    let differ = IsDistinct-IsPermutation (eq_by_cmp by_key) (flips by_key_total) fs es (IsPermutation-sym es fs h) (IsDistinct-from_sorted by_key fs sorted) in
    let none = no_key_twice [] es differ in
    (none, one_sorted by_key_total (inserts_entries [] es) fs (IsPermutation-trans _ _ _ (IsPermutation-sym _ _ (entries_moves [] es none)) h) (entries_sorted [] es none tt) sorted)

pub entries_sorts_of : (es : List (Edn × Edn)) → NoKeyTwice [] es → SortsEntries (entries_of es) (entries_of (inserts_entries [] es))
unfolding IsStrictlySortedBy
entries_sorts_of es h = record {
  same = rw (pairs_of-entries_of es, pairs_of-entries_of (inserts_entries [] es)) (entries_moves [] es h);
  ascend = keys_ascend_from_sorted (inserts_entries [] es) (entries_sorted [] es h tt);
}

entries_of-pairs_of : (es : Entries) → entries_of (pairs_of es) ≡ es
entries_of-pairs_of no_entries = refl
entries_of-pairs_of (entry k x es) = ap (entry k x) (entries_of-pairs_of es)

pub pairs_sorts_again : (es fs : Entries) → SortsEntries es fs → NoKeyTwice [] (pairs_of es) × (entries_of (inserts_entries [] (pairs_of es)) ≡ fs)
pairs_sorts_again es fs h =
    let p = sorted_entries_is (pairs_of es) (pairs_of fs) h.same (rw (entries_of-pairs_of fs) h.ascend) in
    (p.0, ap entries_of p.1 ∙ entries_of-pairs_of fs)
