use Rattle.std.proofs.Common.{arith}
use Rattle.ref_value.proofs.Depths.{items_depth_at, items_lawful_at}
use Rattle.ref_value.proofs.vectors.deepest_of.Goals as goal

pub loop-x-preserved : goal.loop-x-preserved
loop-x-preserved c =
    let e = (items_depth_at c.args.values.now c.loop-x.x-index c.x-item.result c.loop-x-test.true).1 in
    let f = rw (← c.x-item.is) at e in
    record {
      value = omega (arith, f);
      bound = omega arith;
      lawful = items_lawful_at c.args.values.now c.loop-x.x-index c.x-item.result c.loop-x-test.true c.x-item.is c.loop-x.invariant.lawful c.depth.ensures.lawful.parts;
    }
