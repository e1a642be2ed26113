use Rattle.std.proofs.Common.{◌≡◌, ◌<◌, ◌⊎◌, inl, inr, arith}
use Rattle.std.specs.Prelude.{max}
use Rattle.ref_value.specs.Edn.{nesting}
use Rattle.ref_value.proofs.Edited.{remove_deepest_pair}
use Rattle.ref_value.proofs.changing.remove_pair.Goals as goal
use Rattle.ref_value.proofs.changing.remove_pair.Goals.{else-gone-gt0-via-then-gone-gt0+else-gone-deepest, else-gone-gt0-via-else-gone-gt0}

pub returns-else-gone-gt0-clause-deepest : goal.returns-else-gone-gt0-clause-deepest
returns-else-gone-gt0-clause-deepest c =
    let e = c.index.result.now in
    let shallow : (max (nesting e.0) (nesting e.1) ≡ 0) ⊎ (max (nesting e.0) (nesting e.1) < c.args.deepest.now) = elim c.else-gone-gt0.branch [
      | else-gone-gt0-via-then-gone-gt0+else-gone-deepest w ↦ inr (omega (arith, w.if-gone-deepest.false, c.depth_of-gone.ensures.depth))
      | else-gone-gt0-via-else-gone-gt0 w ↦ inl (omega (arith, w.if-gone-gt0.false, c.depth_of-gone.ensures.depth))
    ] in
    rw c.remove.ensures.items (remove_deepest_pair c.args.deepest.now c.args.pairs.now.items c.args.i e c.requires.in_range c.index.ensures shallow c.requires.deepest)
