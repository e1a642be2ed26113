use Rattle.std.proofs.Common.{◌≡◌}
use Rattle.ref_value.proofs.Pairing.{twins_deepest}
use Rattle.ref_value.proofs.sequence.chunks.Chunk.deepest.Goals as goal

pub returns-in-Values : goal.returns-in-Values
returns-in-Values c =
    let facts = c.deepest_of.ensures in
    let same : c.deref.result.now ≡ c.in-Values.values.items = cc in
    rw c.in-Values.is (rw same at (twins_deepest c.deepest_of.result c.deref.result.now facts.value facts.bound facts.lawful))
