-- What is behind a change is shorter than the chain, so that a walk along it ends.
use Rattle.std.specs.Prelude.{◌≤◌, max, length}
use Rattle.std.proofs.Common.{arith}
use Rattle.ref_refs.specs.declared.late.Link.{Link}
use Rattle.ref_refs.specs.declared.late.Link.TheVariants.{End, To}
use Rattle.ref_refs.specs.declared.late.Late.TheDeep.{deep-Link}
use Rattle.ref_refs.specs.Chained.{items_of}

pub falls : (first : Link) → max (deep-Link first) 0 ≤ length (items_of first)
falls End = omega arith
falls (To b) = omega arith
