use Rattle.ref_play.proofs.PlainAgents.{finish_means}
use Rattle.ref_play.proofs.theorems.finish_in_plain_words.Goals as goal

pub returns : goal.returns
returns g c = finish_means g.M.Meaning.accepts
