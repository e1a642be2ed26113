use Rattle.std.proofs.Common.{sym}
use Rattle.ref_play.specs.Sims.{jobs_of}
use Rattle.ref_play.proofs.WorkDone.{still_none}
use Rattle.ref_play.proofs.working.take.Goals as goal

pub put-requires-clause-none : goal.put-requires-clause-none
put-requires-clause-none g c = still_none (jobs_of c.args.jobs.now) (jobs_of c.reserve.new.self) c.args.actor c.in_default-reserve.ensures.same (sym c.in_default.ensures)
