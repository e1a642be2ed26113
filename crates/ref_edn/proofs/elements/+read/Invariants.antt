use Rattle.std.proofs.Common.{◌+◌, ◌*◌, ◌≤◌, length}
use Rattle.ref_edn.specs.ReadParts.{items_at, set_at, map_at}
use Rattle.ref_edn.specs.Reading.{skip}
use Rattle.ref_edn.proofs.Turns.{Skips}
use Rattle.ref_edn.proofs.Loops.{ReadsItems}
use Rattle.ref_edn.proofs.Marked.{MarksSet, MarksMap}
use Rattle.ref_edn.proofs.elements.+read.Given as goal

abbrev pub decreases-discarded : goal.decreases-discarded
decreases-discarded l = 8 * l.room

abbrev pub decreases-vector : goal.decreases-vector
decreases-vector l = 8 * l.room

abbrev pub decreases-mapping : goal.decreases-mapping
decreases-mapping l = 8 * l.room

abbrev pub decreases-collection : goal.decreases-collection
decreases-collection l = 8 * l.room

abbrev pub decreases-skip : goal.decreases-skip
decreases-skip l = 8 * l.room + 2

abbrev pub decreases-pass : goal.decreases-pass
decreases-pass l = 8 * l.room + 1

abbrev pub decreases-read : goal.decreases-read
decreases-read l = 8 * l.room + 1

abbrev pub decreases-next : goal.decreases-next
decreases-next l = 8 * l.room + 3

abbrev pub decreases-value : goal.decreases-value
decreases-value l = 8 * l.room + 3

abbrev pub decreases-items : goal.decreases-items
decreases-items l = 8 * l.room + 4

abbrev pub decreases-elements : goal.decreases-elements
decreases-elements l = 8 * l.room + 5

abbrev pub decreases-entries : goal.decreases-entries
decreases-entries l = 8 * l.room + 5

abbrev pub invariant-pass-loop-alloc : goal.invariant-pass-loop-alloc
invariant-pass-loop-alloc l = record { reads : Skips l.room l.rest (skip l.room l.text); shorter : length l.rest ≤ length l.text }

abbrev pub decreases-pass-loop-alloc : goal.decreases-pass-loop-alloc
decreases-pass-loop-alloc l = length l.rest

abbrev pub invariant-items-loop-found : goal.invariant-items-loop-found
invariant-items-loop-found l = record { reads : ReadsItems l.room l.close l.found.items l.rest (items_at l.room l.close l.text); shorter : length l.rest ≤ length l.text }

abbrev pub decreases-items-loop-found : goal.decreases-items-loop-found
decreases-items-loop-found l = length l.rest

abbrev pub decreases-marked_elements : goal.decreases-marked_elements
decreases-marked_elements l = 8 * l.room + 4

abbrev pub decreases-marked_entries : goal.decreases-marked_entries
decreases-marked_entries l = 8 * l.room + 4

abbrev pub invariant-marked_elements-loop-start : goal.invariant-marked_elements-loop-start
invariant-marked_elements-loop-start l = record { reads : MarksSet l.room l.found.items l.rest (set_at l.room l.text); shorter : length l.rest ≤ length l.text }

abbrev pub decreases-marked_elements-loop-start : goal.decreases-marked_elements-loop-start
decreases-marked_elements-loop-start l = length l.rest

abbrev pub invariant-marked_entries-loop-start : goal.invariant-marked_entries-loop-start
invariant-marked_entries-loop-start l = record { reads : MarksMap l.room l.found.items l.rest (map_at l.room l.text); shorter : length l.rest ≤ length l.text }

abbrev pub decreases-marked_entries-loop-start : goal.decreases-marked_entries-loop-start
decreases-marked_entries-loop-start l = length l.rest
