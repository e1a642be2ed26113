use Rattle.ref_edn.proofs.BothWays.{all_only}
use Rattle.ref_edn.proofs.reader.one_series.Goals as goal

pub returns : goal.returns
returns c = all_only
