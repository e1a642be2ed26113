use Rattle.ref_refs.proofs.Accepted.{known_at}
use Rattle.ref_refs.proofs.rules.first_invalid.Goals as goal

pub is_accepted-requires : goal.is_accepted-requires
is_accepted-requires g c = known_at (g.F.Functions.knows c.args.funs.now).preds c.args.guards.now c.args.touched.now c.loop-r.r-index c.requires c.loop-r-test.true
