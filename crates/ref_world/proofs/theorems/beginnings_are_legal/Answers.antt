use Rattle.ref_world.proofs.Legal.{beginnings_are_legal}
use Rattle.ref_world.proofs.theorems.beginnings_are_legal.Goals as goal

pub returns : goal.returns
returns g c = beginnings_are_legal g.M.Meaning.means
