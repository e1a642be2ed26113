use Rattle.ref_refs.specs.Conflicts.{refusal-fits, told-fits}
use Rattle.ref_refs.proofs.store.RefStore.commit.Goals as goal

pub returns-in-Err-clause-conflict : goal.returns-in-Err-clause-conflict
returns-in-Err-clause-conflict g c = told-fits c.args.tx _ _ _ c.in-Err.fault c.in-Err.ensures.refused (refusal-fits c.args.tx g.M.Meaning.means g.M.Meaning.accepts (g.F.Functions.knows c.args.funs.now) c.args.self.now c.args.at c.args.agents c.args.most_added c.args.most_taken)
