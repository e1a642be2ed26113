-- The members in a chunk, as pairs.
use Rattle.std.specs.Prelude.{List, [], ◌∷◌}
use Rattle.ref_value.specs.Edn.{Edn}
use Rattle.ref_value.specs.Members.{twins}
use Rattle.ref_value.specs.declared.sequence.chunks.Chunk.{Chunk}
use Rattle.ref_value.specs.declared.sequence.chunks.Chunk.TheVariants.{Values, Pairs, One}

abbrev pub members_of : Chunk → List (Edn × Edn)
members_of (Values v) = twins v.items
members_of (Pairs v) = v.items
members_of (One x) = twins (x ∷ [])
