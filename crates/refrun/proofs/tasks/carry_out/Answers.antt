use Rattle.refrun.proofs.PlayFaults.{play_left}
use Rattle.refrun.proofs.tasks.carry_out.Goals as goal

pub returns-in-Err-play_events-clause-left : goal.returns-in-Err-play_events-clause-left
returns-in-Err-play_events-clause-left g c =
    rw (c.in-Play.is, c.fault_of.ensures) (play_left c.args.names.now _ c.in-Err-play_events.fault _ _ _ _ c.in-Err-play_events.ensures.write c.in-Err-play_events.ensures.memory c.in-Err-play_events.ensures.silent)
