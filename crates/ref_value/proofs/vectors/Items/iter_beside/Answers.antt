use Rattle.std.proofs.Common.{sym}
use Rattle.ref_value.proofs.Passing.{singles_passed}
use Rattle.ref_value.proofs.vectors.Items.iter_beside.Goals as goal

pub returns : goal.returns
returns c = rw (sym c.self.view_is, sym c.other.view_is) (singles_passed _ _ _ _ c.walk_beside-walk.ensures)
