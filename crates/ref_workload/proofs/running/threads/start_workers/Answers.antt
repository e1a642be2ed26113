use denote.Param.{param}
use denote.Param.Send.{IsSync, sendable}
use denote.Ref.{NamedLft}
use Rattle.std.proofs.Crossing as std
use Rattle.ref_workload.proofs.Crossing.{ended_send, run_sync, start_send}
use Rattle.ref_workload.specs.contracts.running.workers.Run as Run
use Rattle.ref_workload.proofs.running.threads.start_workers.Goals as goal

pub spawn-requires-send-F : goal.spawn-requires-send-F
spawn-requires-send-F g c κs within =
    let run : (κ : NamedLft) → IsSync (Run.the_row κ (param 1 g.row.F) (param 2 g.row.L) g.L.Books) = λ κ. run_sync κ _ _ _ c.type_bounds.sync-F in
    search (run, start_send, sendable) depth 60

pub spawn-requires-send-T : goal.spawn-requires-send-T
spawn-requires-send-T g c κs within = search (ended_send, std.crosses, sendable) depth 60
