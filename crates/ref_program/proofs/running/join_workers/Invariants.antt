use Rattle.std.proofs.Common.{◌≡◌, ◌+◌, true, is_ok, length, map, vec_len}
use Rattle.std.specs.Vec.Iter.{into_iter_items, into_iter_len}
use Rattle.ref_program.specs.Done.{AreLeft, AreNumbers}
use Rattle.ref_program.proofs.running.join_workers.Given as goal

abbrev pub invariant-loop-handle : goal.invariant-loop-handle
invariant-loop-handle g l = record {
  rest : length l.yielded + into_iter_len l.handle-iterator ≡ vec_len l.fn.workers;
  numbers : AreNumbers (length l.yielded) (map (λ h. h.promise.number) (into_iter_items l.handle-iterator));
  count : is_ok l.ended ≡ true → vec_len l.left ≡ length l.yielded;
  left : is_ok l.ended ≡ true → AreLeft g.P.CustomProgram.did 0 (map (λ left. left.share) l.left.items);
}
