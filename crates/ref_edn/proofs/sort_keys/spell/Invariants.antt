use Rattle.std.proofs.Common.{◌≡◌, ◌-◌, ◌<◌, drop}
use Rattle.ref_edn.specs.SortKeys.{spelled}
use Rattle.ref_edn.proofs.SortKeys.{room}
use Rattle.ref_edn.proofs.sort_keys.spell.Given as goal

abbrev pub invariant-loop-i : goal.invariant-loop-i
invariant-loop-i l = (spelled (7 - l.i) l.key (drop l.i l.text) ≡ spelled 7 l.fn.kind l.text) × (l.key < room l.i)
