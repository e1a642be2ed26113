use Rattle.std.proofs.Common.{rules}
use Rattle.ref_shared.proofs.Looks.{names_among}
use Rattle.ref_shared.proofs.shared.Held.enter_all.Goals as goal

pub returns-in-Err-clause-fault : goal.returns-in-Err-clause-fault
returns-in-Err-clause-fault g c = names_among c.args.agents.now _ c.in-Err.fault c.in-Err.ensures.fault (c.loop-g.g-index, (search rules, search rules))
