use Rattle.ref_value.proofs.Pairing.{lawful_singles}
use Rattle.ref_value.proofs.sets.Elements.deepest.Goals as goal

pub returns-clause-lawful : goal.returns-clause-lawful
returns-clause-lawful c = rw (← c.self.view_is) (lawful_singles c.self.inside.tree.0 c.deepest.ensures.lawful)
