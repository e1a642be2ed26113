use Rattle.ref_play.proofs.PlainAtoms.{compares_mean}
use Rattle.ref_play.proofs.theorems.comparisons_in_plain_words.Goals as goal

pub returns : goal.returns
returns g c = compares_mean g.M.Meaning.accepts
