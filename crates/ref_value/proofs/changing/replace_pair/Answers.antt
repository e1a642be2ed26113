use Rattle.std.proofs.Common.{◌≤◌, ◌<◌, ◌⊎◌, inl, inr, arith}
use Rattle.std.specs.Prelude.{max}
use Rattle.ref_value.specs.Edn.{nesting}
use Rattle.ref_value.proofs.Edited.{set_deepest}
use Rattle.ref_value.proofs.changing.replace_pair.Goals as goal
use Rattle.ref_value.proofs.changing.replace_pair.Goals.{else-depth-deepest-via-then-depth-deepest+else-gone-deepest, else-depth-deepest-via-else-depth-deepest}

pub returns-else-depth-deepest-clause-deepest : goal.returns-else-depth-deepest-clause-deepest
returns-else-depth-deepest-clause-deepest c =
    let depth = c.depth_of-depth.ensures in
    let old = c.index.result.now in
    let new = c.args.pair in
    let shallow : (c.args.deepest.now ≤ max (nesting new.0) (nesting new.1)) ⊎ (max (nesting old.0) (nesting old.1) < c.args.deepest.now) = elim c.else-depth-deepest.branch [
      | else-depth-deepest-via-then-depth-deepest+else-gone-deepest w ↦ inr (omega (arith, w.if-gone-deepest.false, c.depth_of-gone.ensures.depth))
      | else-depth-deepest-via-else-depth-deepest w ↦ inl (omega (arith, w.if-depth-deepest.false, depth.depth))
    ] in
    rw (c.larger.ensures, depth.depth) (set_deepest c.args.deepest.now c.args.pairs.now.items c.args.i old new c.requires.in_range c.index.ensures shallow c.requires.deepest depth.key depth.value)
