-- What of a run crosses threads. A search compares its goal with each fact that it is given, so it is given no more than it needs.
--
-- `search` alone finds no proof of it, as for a world: each type's fact stands on those of its fields.
use denote.RattleType.{RattleType}
use denote.Ref.{NamedLft}
use denote.Param.Send.{IsSend, IsSync, sendable, view_send, view_sync}
use denote.Param.SendFields.{declared_send, declared_sync, variants_send, variants_sync}
use Rattle.std.proofs.Crossing as std
use Rattle.ref_world.specs.declared.names.Books as Books
use Rattle.ref_value.proofs.data.Value.TheLaws.TheKnot as knot
use Rattle.ref_fun.proofs.lists.SharedVec.TheSendSync as lists
use Rattle.ref_audit.specs.contracts.reports.Reason as Reason
use Rattle.ref_audit.specs.contracts.reports.Refusal as Refusal
use Rattle.ref_world.proofs.Crossing.{action_send, action_sync, op_send, op_sync, rule_send, rule_sync, sent_send, sent_sync, share_send, value_send, value_sync}
use Rattle.ref_shared.proofs.Crossing.{shared_sync}
use Rattle.ref_plan.specs.contracts.plans.Held as Held
use Rattle.ref_plan.specs.contracts.plans.PlannedOp as PlannedOp
use Rattle.ref_plan.specs.contracts.plans.PlannedOps as PlannedOps
use Rattle.ref_plan.specs.contracts.plans.PlannedOps.TheInside as InPlannedOps
use Rattle.ref_plan.specs.contracts.plans.Step as Step
use Rattle.ref_workload.specs.contracts.progress.Progress as Progress
use Rattle.ref_workload.specs.contracts.running.workers.Ended as Ended
use Rattle.ref_workload.specs.contracts.running.workers.WorkerStart as WorkerStart
use Rattle.ref_workload.specs.contracts.running.workers.Run as Run

ruleset plain = (std.crosses, knot.crosses, sendable)

-- ---- plans

planned_send : IsSend PlannedOp.the_row
planned_send = variants_send PlannedOp.enum (
  (search plain depth 60, (op_send, tt)),
  (
    (search plain depth 60, (rule_send, tt)),
    ((sent_send, tt), tt),
  ),
)

planned_sync : IsSync PlannedOp.the_row
planned_sync = variants_sync PlannedOp.enum (
  (search plain depth 60, (op_sync, tt)),
  (
    (search plain depth 60, (rule_sync, tt)),
    ((sent_sync, tt), tt),
  ),
)

held_send : IsSend Held.the_row
held_send = variants_send Held.enum (tt, ((planned_send, tt), ((search (planned_send, plain) depth 60, tt), tt)))

held_sync : IsSync Held.the_row
held_sync = variants_sync Held.enum (tt, ((planned_sync, tt), ((search (planned_sync, plain) depth 60, tt), tt)))

ops_send : IsSend PlannedOps.the_row
ops_send = view_send _ _ _ _ _ (declared_send InPlannedOps.the_type (held_send, tt))

ops_sync : IsSync PlannedOps.the_row
ops_sync = view_sync _ _ _ _ _ (declared_sync InPlannedOps.the_type (held_sync, tt))

step_send : IsSend Step.the_row
step_send = variants_send Step.enum (
  (ops_send, tt),
  (
    (search plain depth 60, (action_send, tt)),
    (
      (search plain depth 60, (value_send, tt)),
      (
        (search plain depth 60, (value_send, (value_send, tt))),
        (
          (sent_send, tt),
          (
            (search plain depth 60, (value_send, (search plain depth 60, tt))),
            (
              (search plain depth 60, (search plain depth 60, tt)),
              ((search plain depth 60, (search (rule_send, plain) depth 60, tt)), tt),
            ),
          ),
        ),
      ),
    ),
  ),
)

step_sync : IsSync Step.the_row
step_sync = variants_sync Step.enum (
  (ops_sync, tt),
  (
    (search plain depth 60, (action_sync, tt)),
    (
      (search plain depth 60, (value_sync, tt)),
      (
        (search plain depth 60, (value_sync, (value_sync, tt))),
        (
          (sent_sync, tt),
          (
            (search plain depth 60, (value_sync, (search plain depth 60, tt))),
            (
              (search plain depth 60, (search plain depth 60, tt)),
              ((search plain depth 60, (search (rule_sync, plain) depth 60, tt)), tt),
            ),
          ),
        ),
      ),
    ),
  ),
)

-- ---- what threads are lent, started with, and hand back

reason_send : IsSend Reason.the_row
reason_send = variants_send Reason.enum (tt, (tt, ((search plain depth 60, tt), (tt, (tt, (tt, (tt, (tt, (tt, (tt, tt))))))))))

refusal_send : IsSend Refusal.the_row
refusal_send = declared_send Refusal.the_type (search plain depth 60, (reason_send, tt))

progress_sync : IsSync Progress.the_row
progress_sync = declared_sync Progress.the_type
    (search plain depth 60, (search plain depth 60, (search plain depth 60, (search plain depth 60, tt))))

module _ (κ : NamedLft) (F L : RattleType) (gL : Books.Ghosts L.Denot) where
  pub run_sync : IsSync F → IsSync (Run.the_row κ F L gL)
  run_sync y = declared_sync (Run.the_type κ F L gL) (
    search plain depth 60,
    (
      search (y, plain) depth 60,
      (
        search (shared_sync, plain) depth 60,
        (search (step_send, step_sync, lists.the_sync, plain) depth 60, (search plain depth 60, (search (progress_sync, plain) depth 60, tt))),
      ),
    ),
  )

module _ (L : RattleType) (gL : Books.Ghosts L.Denot) where
  pub ended_send : IsSend (Ended.the_row L gL)
  ended_send = declared_send (Ended.the_type L gL)
      (search (share_send, plain) depth 60, (search (refusal_send, plain) depth 60, (search plain depth 60, tt)))

  pub start_send : (G : RattleType) → IsSend G → IsSend (WorkerStart.the_row L G gL)
  start_send G y = declared_send (WorkerStart.the_type L G gL)
      (search plain depth 60, (search (share_send, plain) depth 60, (search (y, plain) depth 60, tt)))
