use Rattle.std.proofs.Common.{◌≡◌, false, is_some, below_more, arith, rules}
use Rattle.std.specs.Prelude.{slice_get}
use Rattle.ref_log.specs.Guards.{rule_at}
use Rattle.ref_audit.proofs.OwnFacts.{all_here, all_past}
use Rattle.ref_audit.proofs.own_audit.references.tell_atoms.Goals as goal

pub loop-a-preserved : goal.loop-a-preserved
loop-a-preserved c = below_more _ _ c.loop-a.invariant c.tell_reference.ensures.fact

pub returns-then-not-tell_reference : goal.returns-then-not-tell_reference
returns-then-not-tell_reference c =
    let world = c.args.world.now in
    let none : is_some (slice_get world.atoms.values c.loop-a.a) ≡ false = search rules in
    all_here world.atoms.values (rule_at world.atoms.guards) c.loop-a.a c.loop-a.invariant none

pub returns : goal.returns
returns c =
    let world = c.args.world.now in
    all_past world.atoms.values (rule_at world.atoms.guards) c.loop-a.a c.loop-a.invariant (omega arith)
