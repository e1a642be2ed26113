use Rattle.std.proofs.Common.{ap, ◌∙◌}
use Rattle.std.specs.FinMap.{len}
use Rattle.ref_pmap.proofs.WholeMaps.{empty_where}
use Rattle.ref_pmap.proofs.maps.PMap.is_empty.Goals as goal

pub returns : goal.returns
returns g c = empty_where _ c.args.self.now (c.self.invariant ∙ ap len c.self.view_is)
