use Rattle.std.proofs.Common.{length, sym, ap, ◌∙◌}
use Rattle.ref_pmap.proofs.Listed.{items_length}
use Rattle.ref_pmap.proofs.numbered.Numbered.len.Goals as goal

pub returns-clause-value : goal.returns-clause-value
returns-clause-value g c = c.len.ensures ∙ sym (items_length c.self.inside.map c.self.invariant) ∙ ap length c.self.view_is
