use Rattle.ref_play.proofs.PlainAtoms.{changes_mean}
use Rattle.ref_play.proofs.theorems.changes_in_plain_words.Goals as goal

pub returns : goal.returns
returns g c = changes_mean g.M.Meaning.means g.M.Meaning.accepts
