use Rattle.ref_play.proofs.PlainAgents.{ready_means}
use Rattle.ref_play.proofs.theorems.ready_in_plain_words.Goals as goal

pub returns : goal.returns
returns c = ready_means
