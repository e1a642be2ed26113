use Rattle.std.proofs.Common.{of_calls, rules}
use Rattle.std.specs.Prelude.{Option}
use Rattle.ref_shared.specs.Bodies.{calls_of}
use Rattle.ref_shared.specs.declared.bodies.OnTx.{OnTx}
use Rattle.ref_shared.proofs.Within.{if_wait_fails, if_landed}
use Rattle.ref_shared.proofs.waiting.Shared+Core+L.transact_when.Goals as goal

pub transact_as_when-requires-clause-body : goal.transact_as_when-requires-clause-body
transact_as_when-requires-clause-body g c = rw c.of-body.ensures (search (of_calls, rules))

pub returns-clause-ok : goal.returns-clause-ok
returns-clause-ok g c = if_landed _ (λ (w : OnTx g.row.B.Denot (Option g.row.T.Denot) g.row.E.Denot). w.body) (calls_of g.B.FnMut) _ _ _ _ _ _ _ _ c.of-body.ensures c.transact_as_when.ensures.ok

pub returns-clause-fault : goal.returns-clause-fault
returns-clause-fault g c = if_wait_fails _ _ (λ (w : OnTx g.row.B.Denot (Option g.row.T.Denot) g.row.E.Denot). w.body) (calls_of g.B.FnMut) _ _ _ _ _ c.of-body.ensures c.transact_as_when.ensures.fault
