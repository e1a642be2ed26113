use Rattle.ref_play.proofs.PlainReleases.{release_carried_means}
use Rattle.ref_play.proofs.theorems.release_carried_in_plain_words.Goals as goal

pub returns : goal.returns
returns c = release_carried_means
