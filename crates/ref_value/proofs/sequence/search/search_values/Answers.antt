use Rattle.ref_value.proofs.Searching.{element_missed}
use Rattle.ref_value.proofs.sequence.search.search_values.Goals as goal

pub returns-clause-absent : goal.returns-clause-absent
returns-clause-absent c = element_missed c.args.values.now c.args.key.now c.binary_search.result c.requires c.binary_search.ensures.bound c.binary_search.ensures.position
