use Rattle.std.proofs.Common.{◌≡◌, ◌++◌, []}
use Rattle.ref_workload.specs.Marks.{AreMarks, EntriesStand}
use Rattle.ref_workload.proofs.Marking.{passed}
use Rattle.ref_workload.proofs.order.entries.mark_entries.Given as goal

abbrev pub invariant-loop-entry : goal.invariant-loop-entry
invariant-loop-entry l = record {
  all : passed l.yielded ++ l.entry-iterator ≡ l.log;
  stand : (refused : _) → AreMarks l.workers refused [] l.fn.board → EntriesStand l.workers refused (passed l.yielded) l.board;
}
