use Rattle.std.proofs.Common.{◌≡◌}
use Rattle.ref_value.specs.Chunks.{members_of}
use Rattle.ref_value.specs.Members.{twins}
use Rattle.ref_value.proofs.Searched.{twins_all_found, twins_all_missed}
use Rattle.ref_value.proofs.sequence.search.search_in.Goals as goal

pub returns-in-Values-clause-found : goal.returns-in-Values-clause-found
returns-in-Values-clause-found c =
    let same : twins c.deref.result.now ≡ members_of c.args.chunk.now = cc in
    rw same at (twins_all_found c.deref.result.now c.args.key.now c.search_values.result c.search_values.ensures.found)

pub returns-in-Values-clause-absent : goal.returns-in-Values-clause-absent
returns-in-Values-clause-absent c =
    let same : twins c.deref.result.now ≡ members_of c.args.chunk.now = cc in
    rw same at (twins_all_missed c.deref.result.now c.args.key.now c.search_values.result c.search_values.ensures.absent)

pub returns-in-One-clause-found : goal.returns-in-One-clause-found
returns-in-One-clause-found c =
    rw c.in-One.is (rw c.from_ref.ensures.value at (twins_all_found c.from_ref.result.now c.args.key.now c.search_values-in-One.result c.search_values-in-One.ensures.found))
