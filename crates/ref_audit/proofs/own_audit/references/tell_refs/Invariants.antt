use Rattle.std.proofs.Common.{◌≡◌, ◌<◌, ℕ, true}
use Rattle.std.specs.Prelude.{slice_get}
use Rattle.ref_log.specs.Guards.{rule_at}
use Rattle.ref_audit.specs.OwnDump.{rule_fact}
use Rattle.ref_audit.proofs.own_audit.references.tell_refs.Given as goal

abbrev pub invariant-loop-r : goal.invariant-loop-r
invariant-loop-r l = (k : ℕ) → k < l.r → rule_fact (slice_get l.world.refs.values k) (rule_at l.world.refs.guards k) ≡ true
