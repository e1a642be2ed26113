use Rattle.ref_world.specs.Starts.{with_atom}
use Rattle.ref_world.proofs.Starting.{one_fails, one_short}
use Rattle.ref_world.proofs.declared.declared_atoms.Goals as goal

pub returns-in-Err-clause-fault : goal.returns-in-Err-clause-fault
returns-in-Err-clause-fault g c =
    λ other. one_fails (with_atom g.M.Meaning.accepts (g.F.Functions.knows c.args.funs.now).preds) c.args.starts.now c.loop-start.start-index c.start-item.result c.loop-start.atoms _ c.in-Err.refused c.loop-start.invariant.made c.loop-start-test.true c.start-item.is (c.in-Err.ensures.fault other)

pub returns-in-Err-clause-memory : goal.returns-in-Err-clause-memory
returns-in-Err-clause-memory g c =
    λ short next. c.loop-start.invariant.first next (one_short (with_atom g.M.Meaning.accepts (g.F.Functions.knows c.args.funs.now).preds) c.args.starts.now c.loop-start.start-index c.start-item.result c.loop-start.atoms next c.loop-start-test.true c.start-item.is (c.in-Err.ensures.memory short))
