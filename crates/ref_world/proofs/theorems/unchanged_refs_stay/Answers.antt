use Rattle.ref_world.proofs.Legal.{unchanged_stays}
use Rattle.ref_world.proofs.theorems.unchanged_refs_stay.Goals as goal

pub returns : goal.returns
returns g c = unchanged_stays g.M.Meaning.means
