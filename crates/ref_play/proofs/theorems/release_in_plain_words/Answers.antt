use Rattle.ref_play.proofs.PlainSends.{release_means}
use Rattle.ref_play.proofs.theorems.release_in_plain_words.Goals as goal

pub returns : goal.returns
returns c = release_means
