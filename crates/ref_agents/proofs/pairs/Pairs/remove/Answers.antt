use Rattle.std.proofs.Common.{◌∙◌, ◌==◌, ◌&&◌, ap, cond, false}
use Rattle.ref_agents.specs.Places.{has_pair}
use Rattle.ref_agents.proofs.PairLaws.{without_one}
use Rattle.ref_agents.proofs.pairs.Pairs.remove.Goals as goal

pub returns : goal.returns
returns c a b =
    let x = c.args.x in
    let y = c.args.y in
    c.remove.ensures.updates.0 (a, b)
    ∙ (without_one x y a b (has_pair c.self.inside.pairs.keys a b) ∙ ap (λ l. cond ((x == a) && (y == b)) false (has_pair l a b)) c.self.view_is)
