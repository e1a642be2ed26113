use Rattle.std.proofs.Common.{arith}
use Rattle.ref_pmap.proofs.Opened.{copied_whole}
use Rattle.ref_pmap.proofs.trees.Branch.copied.Goals as goal

pub returns : goal.returns
returns g c = copied_whole c.args.self.now c.loop-i.copy c.loop-i.i c.requires.count c.loop-i.invariant (omega arith)
