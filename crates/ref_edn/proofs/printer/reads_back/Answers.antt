use Rattle.ref_edn.proofs.PrintedBelongs.{printed_belongs}
use Rattle.ref_edn.proofs.printer.reads_back.Goals as goal

pub returns : goal.returns
returns c = printed_belongs
