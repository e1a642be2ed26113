use Rattle.std.proofs.Common.{◌≡◌, drop}
use Rattle.ref_verdict.specs.Verdict.{fit_version}
use Rattle.ref_verdict.proofs.verdicts.counts.fit_version.Given as goal

abbrev pub invariant-loop-done : goal.invariant-loop-done
invariant-loop-done l = fit_version l.version l.tally (drop l.done-index l.dones) ≡ fit_version l.version l.tally l.dones
