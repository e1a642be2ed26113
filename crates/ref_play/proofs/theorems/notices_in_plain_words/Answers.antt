use Rattle.ref_play.proofs.PlainNotices.{notices_mean}
use Rattle.ref_play.proofs.theorems.notices_in_plain_words.Goals as goal

pub returns : goal.returns
returns c = notices_mean
