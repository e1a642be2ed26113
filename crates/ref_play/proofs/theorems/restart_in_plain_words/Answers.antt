use Rattle.ref_play.proofs.PlainAgents.{restart_means}
use Rattle.ref_play.proofs.theorems.restart_in_plain_words.Goals as goal

pub returns : goal.returns
returns c = restart_means
