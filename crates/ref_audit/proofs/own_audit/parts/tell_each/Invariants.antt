use Rattle.std.proofs.Common.{◌≡◌, drop}
use Rattle.std.specs.List.{list_all}
use Rattle.ref_audit.specs.OwnDump.{is_small_carry}
use Rattle.ref_audit.proofs.own_audit.parts.tell_each.Given as goal

abbrev pub invariant-loop-carry : goal.invariant-loop-carry
invariant-loop-carry l = list_all is_small_carry (drop l.carry-index l.carries) ≡ list_all is_small_carry l.carries
