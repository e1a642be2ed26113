use Rattle.std.proofs.Common.{◌≡◌, ◌+◌, length, map, vec_len}
use Rattle.std.specs.Vec.Iter.{into_iter_items, into_iter_len}
use Rattle.ref_world.specs.Shares.{all_parts}
use Rattle.ref_program.specs.Done.{AreLeft, HaveDone}
use Rattle.ref_program.proofs.running.join_all.Given as goal

abbrev pub invariant-loop-one : goal.invariant-loop-one
invariant-loop-one g l = record {
  count : length l.yielded + into_iter_len l.one-iterator ≡ vec_len l.fn.left;
  parts : l.share.parts + into_iter_len l.one-iterator ≡ all_parts;
  rest : AreLeft g.P.CustomProgram.did (length l.yielded) (map (λ left. left.share) (into_iter_items l.one-iterator));
  done : HaveDone g.P.CustomProgram.did (length l.yielded) l.share;
}
