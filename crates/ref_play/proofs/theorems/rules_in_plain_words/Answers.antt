use Rattle.ref_play.proofs.PlainMakes.{rules_mean}
use Rattle.ref_play.proofs.theorems.rules_in_plain_words.Goals as goal

pub returns : goal.returns
returns g c = rules_mean g.M.Meaning.accepts
