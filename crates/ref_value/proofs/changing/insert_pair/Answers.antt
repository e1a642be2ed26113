use Rattle.ref_value.proofs.Edited.{insert_deepest_pair}
use Rattle.ref_value.proofs.changing.insert_pair.Goals as goal

pub returns-clause-deepest : goal.returns-clause-deepest
returns-clause-deepest c =
    let depth = c.depth_of-depth.ensures in
    rw (c.larger.ensures, depth.depth, c.in_ok-insert.ensures.items) (insert_deepest_pair _ _ c.args.i c.args.pair c.requires.deepest depth.key depth.value)
