use Rattle.ref_play.proofs.PlainReplay.{replay_means}
use Rattle.ref_play.proofs.theorems.replay_in_plain_words.Goals as goal

pub returns : goal.returns
returns g c = replay_means g.M.Meaning.means
