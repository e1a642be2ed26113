use Rattle.std.proofs.Common.{◌∙◌}
use Rattle.ref_value.proofs.SetMembers.{has_is}
use Rattle.ref_value.proofs.sets.Elements.contains.Goals as goal

pub returns : goal.returns
returns c = c.is_ok.ensures.value ∙ has_is c.args.self.now c.args.x.now c.search.result c.search.ensures.found c.search.ensures.absent
