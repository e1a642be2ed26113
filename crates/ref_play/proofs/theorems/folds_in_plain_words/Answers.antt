use Rattle.ref_play.proofs.PlainFolds.{folds_mean}
use Rattle.ref_play.proofs.theorems.folds_in_plain_words.Goals as goal

pub returns : goal.returns
returns c = folds_mean
