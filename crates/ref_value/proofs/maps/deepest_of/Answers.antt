use Rattle.std.proofs.Common.{arith}
use Rattle.ref_value.proofs.Depths.{entries_depth_at, entries_lawful_at}
use Rattle.ref_value.proofs.maps.deepest_of.Goals as goal

pub loop-key-preserved : goal.loop-key-preserved
loop-key-preserved c =
    let e = (entries_depth_at c.args.pairs.now c.loop-key.key-index c.loop-key-item.result c.loop-key-test.true).1 in
    let f = rw (← c.loop-key-item.is) at e in
    record {
      value = omega (arith, f);
      bound = omega arith;
      lawful = entries_lawful_at c.args.pairs.now c.loop-key.key-index c.loop-key-item.result c.loop-key-test.true c.loop-key-item.is
          c.loop-key.invariant.lawful c.depth.ensures.lawful.parts c.depth-in-loop-key.ensures.lawful.parts;
    }
