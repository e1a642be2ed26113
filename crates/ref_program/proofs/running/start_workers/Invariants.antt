use Rattle.std.proofs.Common.{◌≡◌, ◌+◌, map, vec_len}
use Rattle.std.specs.Vec.Iter.{into_iter_items, into_iter_len}
use Rattle.ref_program.specs.Done.{AreFresh, AreNumbers}
use Rattle.ref_program.proofs.running.start_workers.Given as goal

abbrev pub invariant-loop-part : goal.invariant-loop-part
invariant-loop-part g l = record {
  number : l.number ≡ vec_len l.workers;
  rest : l.number + into_iter_len l.part-iterator ≡ l.hall.crew.workers;
  fresh : AreFresh (into_iter_items l.part-iterator);
  numbers : AreNumbers 0 (map (λ h. h.promise.number) l.workers.items);
}
