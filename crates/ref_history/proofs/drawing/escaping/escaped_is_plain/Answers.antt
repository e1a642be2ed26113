use Rattle.ref_history.proofs.Escapes.{escaped_plain}
use Rattle.ref_history.proofs.drawing.escaping.escaped_is_plain.Goals as goal

pub returns : goal.returns
returns c = escaped_plain
