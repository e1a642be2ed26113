use Rattle.ref_world.proofs.Legal.{parts_add_up}
use Rattle.ref_world.proofs.theorems.parts_add_up.Goals as goal

pub returns : goal.returns
returns g c = parts_add_up g.M.Meaning.means
