use Rattle.ref_shared.specs.Bodies.{calls_of}
use Rattle.ref_shared.specs.declared.bodies.OnTx.{OnTx}
use Rattle.ref_shared.proofs.Within.{if_fault_comes, if_committed}
use Rattle.ref_shared.proofs.transacting.Shared+Core+L.transact.Goals as goal

pub returns-clause-ok : goal.returns-clause-ok
returns-clause-ok g c = if_committed _ (λ (w : OnTx g.row.B.Denot g.row.T.Denot g.row.E.Denot). w.body) (calls_of g.B.FnMut) _ _ _ _ _ _ _ _ c.of-body.ensures c.transact_as.ensures.ok

pub returns-clause-fault : goal.returns-clause-fault
returns-clause-fault g c = if_fault_comes _ _ (λ (w : OnTx g.row.B.Denot g.row.T.Denot g.row.E.Denot). w.body) (calls_of g.B.FnMut) _ _ _ _ _ c.of-body.ensures c.transact_as.ensures.fault
