use Rattle.std.proofs.Common.{sym, ap, ◌∙◌, arith}
use Rattle.ref_pmap.proofs.Sides.{only_side, side_read}
use Rattle.ref_pmap.proofs.trees.Branch.into_tree.Goals as goal

pub returns-in-Some : goal.returns-in-Some
returns-in-Some g c =
    let only = c.in-Some.ensures in
    ap (λ t. t.0) c.replace.ensures.value ∙ side_read c.args.self.sides c.in-Some.side _ (omega (arith, only.0, c.requires.count)) ∙ sym (only_side c.args.self.sides c.in-Some.side only.1)
