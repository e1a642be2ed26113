use Rattle.std.proofs.Common.{◌≡◌, Some, drop}
use Rattle.ref_log.specs.Tally.{fit_tally}
use Rattle.ref_refs.proofs.checking.fits_tally.Given as goal

abbrev pub invariant-loop-done : goal.invariant-loop-done
invariant-loop-done l = fit_tally (Some l.tally) (drop l.done-index l.dones) ≡ fit_tally (Some l.tally) l.dones
