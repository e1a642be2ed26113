use Rattle.std.proofs.Common.{sym}
use Rattle.ref_refs.proofs.Refs.{no_tally}
use Rattle.ref_refs.proofs.checking.fits_tally.Goals as goal

pub returns-in_default : goal.returns-in_default
returns-in_default c = sym (rw c.in_default.is (no_tally c.args.dones.now))
