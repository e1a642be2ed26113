use Rattle.std.proofs.Common.{◌≡◌, take, ◌≤◌}
use Rattle.ref_value.specs.Edn.{entries_depth, entries_of}
use Rattle.ref_value.specs.Lawful.{AreLawfulEntries}
use Rattle.ref_value.proofs.maps.deepest_of.Given as goal

abbrev pub invariant-loop-key : goal.invariant-loop-key
invariant-loop-key l = record {
  value : l.most ≡ entries_depth (entries_of (take l.key-index l.pairs));
  bound : l.most ≤ 64;
  lawful : AreLawfulEntries (entries_of (take l.key-index l.pairs));
}
