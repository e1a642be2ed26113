use Rattle.ref_play.proofs.PlainMakes.{makings_mean}
use Rattle.ref_play.proofs.theorems.makings_in_plain_words.Goals as goal

pub returns : goal.returns
returns g c = makings_mean g.M.Meaning.accepts
