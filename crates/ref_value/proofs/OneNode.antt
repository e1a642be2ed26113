-- Laws: the only node of a list of one.
use Rattle.std.proofs.Common.{◌≡◌, List, [], ◌∷◌, length, refl, arith}
use Rattle.std.specs.Prelude.{slice_index_or}
use Rattle.ref_value.specs.View.{edn, edn_of_one}
use Rattle.ref_value.specs.declared.data.Node.{Node}

pub one_node : (ns : List Node) (other : Node) → length ns ≡ 1 → edn (slice_index_or ns 0 other) ≡ edn_of_one ns
one_node [] other h = absurd (omega (arith, h))
one_node (n ∷ ns) other h = refl
