use Rattle.ref_world.proofs.Refusals.{memory_told}
use Rattle.ref_world.proofs.booked.Booked.commit_with.Goals as goal

pub returns-clause-refused : goal.returns-clause-refused
returns-clause-refused g c = memory_told g.M.Meaning.means g.M.Meaning.accepts (g.F.Functions.knows c.args.funs.now) c.args.self.now.world c.args.tx c.in-Ok.ensures.refused
