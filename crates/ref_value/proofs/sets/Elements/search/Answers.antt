use Rattle.ref_value.proofs.Searched.{singles_all_found, singles_all_missed}
use Rattle.ref_value.proofs.sets.Elements.search.Goals as goal

pub returns-clause-found : goal.returns-clause-found
returns-clause-found c = rw (← c.self.view_is) (singles_all_found c.self.inside.tree.0 c.args.x.now c.search.result c.search.ensures.found)

pub returns-clause-absent : goal.returns-clause-absent
returns-clause-absent c = rw (← c.self.view_is) (singles_all_missed c.self.inside.tree.0 c.args.x.now c.search.result c.search.ensures.absent)
