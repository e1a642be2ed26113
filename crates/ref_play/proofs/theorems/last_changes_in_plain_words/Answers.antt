use Rattle.ref_play.proofs.PlainLasts.{lasts_mean}
use Rattle.ref_play.proofs.theorems.last_changes_in_plain_words.Goals as goal

pub returns : goal.returns
returns c = lasts_mean
