use Rattle.std.proofs.Common.{◌<◌, ◌^◌, sym, subst}
use Rattle.ref_value.proofs.Pairing.{length_singles}
use Rattle.ref_value.proofs.vectors.Items.iter.Goals as goal

pub returns-clause-fits : goal.returns-clause-fits
returns-clause-fits c = subst (λ n. n < 2 ^ 64) (sym (length_singles c.walk.result)) c.walk.ensures.fits
