use Rattle.std.proofs.Common.{◌≡◌, ◌<◌, ℕ, true}
use Rattle.std.specs.Prelude.{slice_get}
use Rattle.ref_log.specs.Guards.{rule_at}
use Rattle.ref_audit.specs.OwnDump.{rule_fact}
use Rattle.ref_audit.proofs.own_audit.references.tell_atoms.Given as goal

abbrev pub invariant-loop-a : goal.invariant-loop-a
invariant-loop-a l = (k : ℕ) → k < l.a → rule_fact (slice_get l.world.atoms.values k) (rule_at l.world.atoms.guards k) ≡ true
