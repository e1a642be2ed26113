use Rattle.ref_history.proofs.Shows.{fine_look}
use Rattle.ref_history.proofs.looks.looked_is_visible.Goals as goal

pub returns : goal.returns
returns c = fine_look
