use Rattle.std.proofs.Common.{◌≡◌, drop}
use Rattle.std.specs.List.{list_all}
use Rattle.ref_audit.specs.OwnDump.{is_small_done}
use Rattle.ref_audit.proofs.own_audit.parts.tell_dones.Given as goal

abbrev pub invariant-loop-done : goal.invariant-loop-done
invariant-loop-done l = list_all is_small_done (drop l.done-index l.dones) ≡ list_all is_small_done l.dones
