use Rattle.std.proofs.Common.{refl}
use Rattle.ref_refs.proofs.Unguarded.{unguarded_more}
use Rattle.ref_refs.proofs.watches.are_unguarded.Goals as goal

pub loop-done-preserved : goal.loop-done-preserved
loop-done-preserved c = unguarded_more c.args.guards.now c.args.dones.now c.loop-done.done-index c.done-item.result c.loop-done-test.true c.done-item.is c.loop-done.invariant (c.if-changes_guarded.ensures refl)
