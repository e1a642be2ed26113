use Rattle.ref_play.proofs.PlainMakes.{rule_means}
use Rattle.ref_play.proofs.theorems.rule_in_plain_words.Goals as goal

pub returns : goal.returns
returns c = rule_means
