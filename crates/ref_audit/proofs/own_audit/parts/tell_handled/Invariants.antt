use Rattle.std.proofs.Common.{◌≡◌, drop}
use Rattle.std.specs.List.{list_all}
use Rattle.ref_audit.specs.OwnDump.{is_small_handled}
use Rattle.ref_audit.proofs.own_audit.parts.tell_handled.Given as goal

abbrev pub invariant-loop-h : goal.invariant-loop-h
invariant-loop-h l = list_all is_small_handled (drop l.h-index l.handled) ≡ list_all is_small_handled l.handled
