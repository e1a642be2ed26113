-- Binary search in value order: what it finds, and the gap where it finds nothing.
use Rattle.std.proofs.Common.{ℕ, List, length}
use Rattle.std.specs.Prelude.{IsTrue, IfOk, IfErr, Result, Ok, Err}
use Rattle.std.specs.List.Sorted.{IsNonDecreasingBy, IsBinarySearchResult, IsSearchInRange}
use Rattle.std.specs.Ordering.{ordering_index}
use Rattle.std.specs.declared.cmp.Ordering.{Ordering}
use Rattle.std.proofs.lemmas.List.Sorted.{searchable_from_sorted}
use Rattle.ref_value.specs.Edn.{Edn, items_of, entries_of}
use Rattle.ref_value.specs.Order.{edn_cmp, elements_ascend, keys_ascend}
use Rattle.ref_value.specs.OrderLaws.{edn_cmp_total}
use Rattle.ref_value.specs.Collections.{IsFoundAt, IsGapAt}
use Rattle.ref_value.specs.SortedLists.{searchable}
use Rattle.ref_value.specs.AscendLaws.{sorted_from_ascend, sorted_from_keys_ascend, by_key_total}

found_from : {X : Type 0} (order : X → Ordering) (xs : List X) (r : Result ℕ ℕ) → IsSearchInRange r (length xs) → IsBinarySearchResult order xs r → IfOk r (IsFoundAt order xs)
found_from order xs (Ok i) bound h = record { in_range = bound; equal = h }
found_from order xs (Err i) bound h = tt

gap_from : {X : Type 0} (order : X → Ordering) (xs : List X) (r : Result ℕ ℕ) → IsSearchInRange r (length xs) → IsBinarySearchResult order xs r → IsNonDecreasingBy (λ y. ordering_index (order y)) xs → IfErr r (IsGapAt order xs)
gap_from order xs (Ok i) bound h up = tt
gap_from order xs (Err i) bound h up = record { in_range = bound; lesser = (h up).0; greater = (h up).1 }

pub element_missed : (xs : List Edn) (x : Edn) (r : Result ℕ ℕ) → IsTrue (elements_ascend (items_of xs)) → IsSearchInRange r (length xs) → IsBinarySearchResult (λ y. edn_cmp y x) xs r
    → IfErr r (IsGapAt (λ y. edn_cmp y x) xs)
element_missed xs x r up bound h = gap_from (λ y. edn_cmp y x) xs r bound h (searchable_from_sorted edn_cmp_total (λ y. y) xs x (searchable edn_cmp_total xs (sorted_from_ascend xs up)))

pub key_found : (es : List (Edn × Edn)) (k : Edn) (r : Result ℕ ℕ) → IsSearchInRange r (length es) → IsBinarySearchResult (λ e. edn_cmp e.0 k) es r → IfOk r (IsFoundAt (λ e. edn_cmp e.0 k) es)
key_found es k r bound h = found_from (λ e. edn_cmp e.0 k) es r bound h

pub key_missed : (es : List (Edn × Edn)) (k : Edn) (r : Result ℕ ℕ) → IsTrue (keys_ascend (entries_of es)) → IsSearchInRange r (length es) → IsBinarySearchResult (λ e. edn_cmp e.0 k) es r
    → IfErr r (IsGapAt (λ e. edn_cmp e.0 k) es)
key_missed es k r up bound h = gap_from (λ e. edn_cmp e.0 k) es r bound h (searchable_from_sorted edn_cmp_total (λ e. e.0) es k (searchable by_key_total es (sorted_from_keys_ascend es up)))
