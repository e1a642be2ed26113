use Rattle.ref_world.proofs.Legal.{entries_follow}
use Rattle.ref_world.proofs.theorems.entries_follow.Goals as goal

pub returns : goal.returns
returns g c = entries_follow g.M.Meaning.means
