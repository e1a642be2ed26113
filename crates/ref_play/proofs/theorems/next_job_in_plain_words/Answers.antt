use Rattle.ref_play.proofs.PlainAgents.{next_job_means}
use Rattle.ref_play.proofs.theorems.next_job_in_plain_words.Goals as goal

pub returns : goal.returns
returns c = next_job_means
