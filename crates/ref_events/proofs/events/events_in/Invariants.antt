use Rattle.std.proofs.Common.{◌≡◌, drop}
use Rattle.ref_events.specs.Acts.{events_said}
use Rattle.ref_events.proofs.Read.{in_front}
use Rattle.ref_events.proofs.events.events_in.Given as goal

-- What was read, with what is left, is what all forms say.
abbrev pub invariant-loop-i : goal.invariant-loop-i
invariant-loop-i l = in_front l.events.items (events_said l.names l.i (drop l.i l.forms)) ≡ events_said l.names 0 l.forms
