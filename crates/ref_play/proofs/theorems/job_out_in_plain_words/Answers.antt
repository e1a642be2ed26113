use Rattle.ref_play.proofs.PlainAgents.{job_out_means}
use Rattle.ref_play.proofs.theorems.job_out_in_plain_words.Goals as goal

pub returns : goal.returns
returns c = job_out_means
