use Rattle.ref_play.proofs.PlainCommits.{commits_where_it_can}
use Rattle.ref_play.proofs.theorems.commits_meet_their_conditions.Goals as goal

pub returns : goal.returns
returns g c = commits_where_it_can g.M.Meaning.means g.M.Meaning.accepts
