use Rattle.std.proofs.Common.{◌≡◌, ◌+◌}
use denote.Param.Always.{always_mut}
use Rattle.ref_program.specs.Seen.{IsSameWorker}
use Rattle.ref_program.proofs.workers.Worker+L+R+Core+CoreFunctions+S.dotimes.Given as goal

abbrev pub invariant-loop : goal.invariant-loop
invariant-loop g l = record {
  commits : l.self.share.commits ≡ l.fn.self.share.commits + l.counter;
  worker : IsSameWorker l.fn.self l.self;
  may : always_mut g.D.FnMut l.body.body;
}
