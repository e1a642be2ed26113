use Rattle.ref_value.proofs.Pairing.{twins_insert}
use Rattle.ref_value.proofs.Edited.{insert_deepest_twin}
use Rattle.ref_value.proofs.changing.insert_value.Goals as goal

pub returns-clause-deepest : goal.returns-clause-deepest
returns-clause-deepest c =
    rw (c.larger.ensures, c.depth-depth.ensures.value, c.in_ok-insert.ensures.items, twins_insert) (insert_deepest_twin _ _ c.args.i c.args.x c.requires.deepest c.depth-depth.ensures.lawful)
