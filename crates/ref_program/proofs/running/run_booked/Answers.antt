use Rattle.std.proofs.lemmas.Result.{IfOk-weaker}
use Rattle.ref_program.proofs.Sums.{as_run}
use Rattle.ref_program.specs.declared.programs.Ended.{Ended}
use Rattle.ref_program.proofs.running.run_booked.Goals as goal

pub returns-in-Ok : goal.returns-in-Ok
returns-in-Ok g c =
    let done = rw c.in_ok-hall.ensures.crew at c.in-Ok.ensures.done in
    IfOk-weaker _ _ _ (λ (end : Ended g.row.M.Denot g.row.P-Sink.Denot g.M.Meaning g.P.Sink.WatchSink).
    as_run _ g.P.CustomProgram.did c.args.crew.workers c.work_all.new.share end.totals end.world.base end.world.log done) c.finish.ensures
