use Rattle.std.proofs.Common.{◌≡◌, drop}
use Rattle.std.specs.List.{list_all}
use Rattle.ref_audit.specs.OwnDump.{is_small_sent}
use Rattle.ref_audit.proofs.own_audit.parts.tell_sends.Given as goal

abbrev pub invariant-loop-sent : goal.invariant-loop-sent
invariant-loop-sent l = list_all is_small_sent (drop l.sent-index l.sends) ≡ list_all is_small_sent l.sends
