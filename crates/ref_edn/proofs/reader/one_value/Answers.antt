use Rattle.ref_edn.proofs.BothWays.{one_only}
use Rattle.ref_edn.proofs.reader.one_value.Goals as goal

pub returns : goal.returns
returns c = one_only
