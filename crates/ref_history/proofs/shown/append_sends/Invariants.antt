use Rattle.std.proofs.Common.{◌≡◌, ◌++◌, drop}
use Rattle.std.specs.List.{flat_map}
use Rattle.ref_history.specs.Shown.{send_text}
use Rattle.ref_history.proofs.shown.append_sends.Given as goal

-- What is written, and what is left to write, are all of it.
abbrev pub invariant-loop-sent : goal.invariant-loop-sent
invariant-loop-sent l = l.out.items ++ flat_map (send_text l.names) (drop l.sent-index l.sends) ≡ l.fn.out.items ++ flat_map (send_text l.names) l.sends
