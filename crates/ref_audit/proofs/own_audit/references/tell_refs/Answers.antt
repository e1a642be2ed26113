use Rattle.std.proofs.Common.{◌≡◌, false, is_some, below_more, arith, rules}
use Rattle.std.specs.Prelude.{slice_get}
use Rattle.ref_log.specs.Guards.{rule_at}
use Rattle.ref_audit.proofs.OwnFacts.{all_here, all_past}
use Rattle.ref_audit.proofs.own_audit.references.tell_refs.Goals as goal

pub loop-r-preserved : goal.loop-r-preserved
loop-r-preserved c = below_more _ _ c.loop-r.invariant c.tell_reference.ensures.fact

pub returns-then-not-tell_reference : goal.returns-then-not-tell_reference
returns-then-not-tell_reference c =
    let world = c.args.world.now in
    let none : is_some (slice_get world.refs.values c.loop-r.r) ≡ false = search rules in
    all_here world.refs.values (rule_at world.refs.guards) c.loop-r.r c.loop-r.invariant none

pub returns : goal.returns
returns c =
    let world = c.args.world.now in
    all_past world.refs.values (rule_at world.refs.guards) c.loop-r.r c.loop-r.invariant (omega arith)
