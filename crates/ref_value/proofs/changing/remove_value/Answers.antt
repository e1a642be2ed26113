use Rattle.std.proofs.Common.{◌≡◌, ◌<◌, ◌⊎◌, inl, inr, arith}
use Rattle.ref_value.specs.Edn.{nesting}
use Rattle.ref_value.proofs.Pairing.{twins_remove, twins_deepest}
use Rattle.ref_value.proofs.Edited.{remove_deepest_twin}
use Rattle.ref_value.proofs.changing.remove_value.Goals as goal
use Rattle.ref_value.proofs.changing.remove_value.Goals.{else-gone-gt0-via-then-gone-gt0+else-gone-deepest, else-gone-gt0-via-else-gone-gt0}

pub returns-else-gone-gt0-clause-deepest : goal.returns-else-gone-gt0-clause-deepest
returns-else-gone-gt0-clause-deepest c =
    let x = c.index.result.now in
    let shallow : (nesting x ≡ 0) ⊎ (nesting x < c.args.deepest.now) = elim c.else-gone-gt0.branch [
      | else-gone-gt0-via-then-gone-gt0+else-gone-deepest w ↦ inr (omega (arith, w.if-gone-deepest.false, c.depth-gone.ensures.value))
      | else-gone-gt0-via-else-gone-gt0 w ↦ inl (omega (arith, w.if-gone-gt0.false, c.depth-gone.ensures.value))
    ] in
    rw (c.remove.ensures.items, twins_remove) (remove_deepest_twin c.args.deepest.now c.args.values.now.items c.args.i x c.requires.in_range c.index.ensures shallow c.requires.deepest)

pub returns-then-gone-deepest-clause-deepest : goal.returns-then-gone-deepest-clause-deepest
returns-then-gone-deepest-clause-deepest c =
    let facts = c.deepest_of.ensures in
    let same : c.deref.result.now ≡ c.remove.new.self.items = cc in
    rw same at (twins_deepest c.deepest_of.result c.deref.result.now facts.value facts.bound facts.lawful)
