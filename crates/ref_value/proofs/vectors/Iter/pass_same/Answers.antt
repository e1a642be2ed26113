use Rattle.ref_value.proofs.Passing.{singles_passed}
use Rattle.ref_value.proofs.vectors.Iter.pass_same.Goals as goal

pub returns : goal.returns
returns c = rw (← c.self.view_is, ← c.other.view_is) (singles_passed c.self.inside.walk c.other.inside.walk c.pass_same.new.self c.pass_same.new.other c.pass_same.ensures)
