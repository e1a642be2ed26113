use Rattle.std.proofs.Common.{◌≡◌, ◌≤◌, ◌+◌, ◌*◌, ◌++◌, ◌∷◌, [], take, length, max}
use Rattle.ref_value.specs.Edn.{nesting, items_depth, items_of, entries_depth, entries_of}
use Rattle.ref_edn.specs.Printed.{items_text, entries_text}
use Rattle.ref_edn.proofs.PrintedParts.{tail, entries_tail}
use Rattle.ref_edn.proofs.printer.+append.Given as goal

abbrev pub decreases-append : goal.decreases-append
decreases-append l = 3 * nesting l.value.now

abbrev pub decreases-append_element : goal.decreases-append_element
decreases-append_element l = 3 * nesting l.x.now + 1

abbrev pub decreases-append_entry : goal.decreases-append_entry
decreases-append_entry l = 3 * max (nesting l.key.now) (nesting l.x.now) + 1

abbrev pub decreases-append_vector : goal.decreases-append_vector
decreases-append_vector l = 3 * items_depth (items_of l.items.now) + 2

abbrev pub decreases-append_set : goal.decreases-append_set
decreases-append_set l = 3 * items_depth (items_of l.elements.now) + 2

abbrev pub decreases-append_map : goal.decreases-append_map
decreases-append_map l = 3 * entries_depth (entries_of l.entries.now) + 2

-- What is printed, and what is left to print, are the whole text.
abbrev pub invariant-append_vector-loop-x : goal.invariant-append_vector-loop-x
invariant-append_vector-loop-x l = record {
  whole : l.out.items ++ tail l.later 93 (items_of l.x-iterator) ≡ l.fn.out.items ++ 91 ∷ items_text 93 (items_of l.items) [];
  kept : take (length l.fn.out.items) l.out.items ≡ l.fn.out.items;
  shallow : items_depth (items_of l.x-iterator) ≤ items_depth (items_of l.items);
}

abbrev pub invariant-append_set-loop-x : goal.invariant-append_set-loop-x
invariant-append_set-loop-x l = record {
  whole : l.out.items ++ tail l.later 125 (items_of l.x-iterator) ≡ l.fn.out.items ++ 35 ∷ 123 ∷ items_text 125 (items_of l.elements) [];
  kept : take (length l.fn.out.items) l.out.items ≡ l.fn.out.items;
  shallow : items_depth (items_of l.x-iterator) ≤ items_depth (items_of l.elements);
}

abbrev pub invariant-append_map-loop-key : goal.invariant-append_map-loop-key
invariant-append_map-loop-key l = record {
  whole : l.out.items ++ entries_tail l.later (entries_of l.key-iterator) ≡ l.fn.out.items ++ 123 ∷ entries_text (entries_of l.entries) [];
  kept : take (length l.fn.out.items) l.out.items ≡ l.fn.out.items;
  shallow : entries_depth (entries_of l.key-iterator) ≤ entries_depth (entries_of l.entries);
}
