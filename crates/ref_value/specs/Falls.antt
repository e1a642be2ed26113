-- Each part of a value weighs less than what it is in. A value weighs 300 for each level of nesting, so that there is room for
-- the levels of the trees inside a collection.
use Rattle.std.specs.Prelude.{◌≡◌, ◌≤◌, max, ◌*◌, List, [], ◌∷◌, length}
use Rattle.std.proofs.Common.{arith}
use denote.Param.Weighed.{most}
use Rattle.ref_value.specs.Edn.{nesting}
use Rattle.ref_value.specs.View.{edn, edn_of_one}
use Rattle.ref_value.specs.declared.data.Node.{Node}
use Rattle.ref_value.specs.declared.data.Node.TheVariants.{Nil, Bool, Int, Str, Keyword, Symbol, Vector, Map, Set, ShortStr, ShortKeyword, ShortSymbol}
use Rattle.ref_value.specs.declared.data.Value.TheDeep.{deep-Node}

pub falls : (n : Node) → max (deep-Node n) 0 ≤ 300 * nesting (edn n)
falls Nil = omega arith
falls (Bool b) = omega arith
falls (Int b) = omega arith
falls (Str b) = omega arith
falls (Keyword b) = omega arith
falls (Symbol b) = omega arith
falls (Vector v) = omega arith
falls (Map v) = omega arith
falls (Set v) = omega arith
falls (ShortStr b) = omega arith
falls (ShortKeyword b) = omega arith
falls (ShortSymbol b) = omega arith

pub falls_one : (ns : List Node) → length ns ≡ 1 → max (most deep-Node ns) 0 ≤ 300 * nesting (edn_of_one ns)
falls_one [] h = absurd (omega (arith, h))
falls_one (n ∷ []) h = omega (arith, falls n)
falls_one (n ∷ m ∷ ns) h = absurd (omega (arith, h))
