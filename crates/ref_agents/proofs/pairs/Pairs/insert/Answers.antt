use Rattle.std.proofs.Common.{◌∙◌, ◌==◌, ◌&&◌, ◌||◌, ap}
use Rattle.ref_agents.specs.Places.{has_pair}
use Rattle.ref_agents.proofs.PairLaws.{with_one}
use Rattle.ref_agents.proofs.pairs.Pairs.insert.Goals as goal

pub returns-clause-ok : goal.returns-clause-ok
returns-clause-ok c a b =
    let x = c.args.x in
    let y = c.args.y in
    c.in_ok-insert.ensures.updates.0 (a, b)
    ∙ (with_one x y a b (has_pair c.self.inside.pairs.keys a b) ∙ ap (λ l. ((x == a) && (y == b)) || has_pair l a b) c.self.view_is)
