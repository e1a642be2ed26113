use Rattle.std.proofs.Common.{◌≡◌, ◌≤◌, ◌+◌, ◌*◌, length}
use Rattle.ref_value.specs.Edn.{nesting, items_depth, entries_depth, items_of, entries_of}
use Rattle.ref_value.specs.Order.{items_cmp, entries_cmp}
use Rattle.ref_value.proofs.order.+compare.Given as goal

abbrev pub decreases-compare : goal.decreases-compare
decreases-compare l = 2 * nesting l.a.now

abbrev pub decreases-compare_items : goal.decreases-compare_items
decreases-compare_items l = 2 * items_depth (items_of l.a.now) + 1

abbrev pub decreases-compare_elements : goal.decreases-compare_elements
decreases-compare_elements l = 2 * items_depth (items_of l.a.now) + 1

abbrev pub decreases-compare_entries : goal.decreases-compare_entries
decreases-compare_entries l = 2 * entries_depth (entries_of l.a.now) + 1

-- The places so far are equal.
abbrev pub invariant-compare_items-loop-x : goal.invariant-compare_items-loop-x
invariant-compare_items-loop-x l = record {
  rest : items_cmp (items_of l.left) (items_of l.others) ≡ items_cmp (items_of l.a) (items_of l.b);
  shallow : items_depth (items_of l.left) ≤ items_depth (items_of l.a);
}

abbrev pub decreases-compare_items-loop-x : goal.decreases-compare_items-loop-x
decreases-compare_items-loop-x l = length l.left

abbrev pub invariant-compare_elements-loop-x : goal.invariant-compare_elements-loop-x
invariant-compare_elements-loop-x l = record {
  rest : items_cmp (items_of l.left) (items_of l.others) ≡ items_cmp (items_of l.a) (items_of l.b);
  shallow : items_depth (items_of l.left) ≤ items_depth (items_of l.a);
}

abbrev pub decreases-compare_elements-loop-x : goal.decreases-compare_elements-loop-x
decreases-compare_elements-loop-x l = length l.left

abbrev pub invariant-compare_entries-loop-key : goal.invariant-compare_entries-loop-key
invariant-compare_entries-loop-key l = record {
  rest : entries_cmp (entries_of l.left) (entries_of l.others) ≡ entries_cmp (entries_of l.a) (entries_of l.b);
  shallow : entries_depth (entries_of l.left) ≤ entries_depth (entries_of l.a);
}

abbrev pub decreases-compare_entries-loop-key : goal.decreases-compare_entries-loop-key
decreases-compare_entries-loop-key l = length l.left
