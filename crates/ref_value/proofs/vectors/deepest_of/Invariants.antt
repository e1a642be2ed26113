use Rattle.std.proofs.Common.{◌≡◌, take, ◌≤◌}
use Rattle.ref_value.specs.Edn.{items_depth, items_of}
use Rattle.ref_value.specs.Lawful.{AreLawful}
use Rattle.ref_value.proofs.vectors.deepest_of.Given as goal

abbrev pub invariant-loop-x : goal.invariant-loop-x
invariant-loop-x l = record {
  value : l.most ≡ items_depth (items_of (take l.x-index l.values));
  bound : l.most ≤ 64;
  lawful : AreLawful (items_of (take l.x-index l.values));
}
