use Rattle.std.proofs.Common.{[]}
use Rattle.ref_refs.proofs.Accepted.{among_from}
use Rattle.ref_refs.proofs.committing.touched_refs_are_touched.Goals as goal

pub returns : goal.returns
returns c = λ ds r. among_from [] ds r
