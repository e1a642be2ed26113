use Rattle.std.proofs.Common.{of_calls, rules}
use Rattle.ref_shared.specs.Bodies.{calls_of}
use Rattle.ref_shared.specs.declared.bodies.OnDosync.{OnDosync}
use Rattle.ref_program.proofs.Bodies.{if_committed, if_fault_comes}
use Rattle.ref_program.proofs.workers.Worker+L+R+Core+CoreFunctions+S.transact.Goals as goal

pub transact_as-requires : goal.transact_as-requires
transact_as-requires g c = rw c.of-body.ensures (search (of_calls, rules))

pub returns-clause-ok : goal.returns-clause-ok
returns-clause-ok g c = if_committed _ (λ (w : OnDosync g.row.D.Denot g.row.T.Denot g.row.E.Denot). w.body) (calls_of g.D.FnMut) _ _ _ _ _ _ _ _ _ c.of-body.ensures c.transact_as.ensures.ok

pub returns-clause-fault : goal.returns-clause-fault
returns-clause-fault g c = if_fault_comes _ _ _ _ (λ (w : OnDosync g.row.D.Denot g.row.T.Denot g.row.E.Denot). w.body) (calls_of g.D.FnMut) _ _ _ _ _ (λ f p. (p.0, p.1)) c.of-body.ensures c.transact_as.ensures.fault
