use Rattle.std.proofs.Common.{◌≡◌, false, is_some, length, suc, below_more, arith, rules, List, [], ◌∷◌, refl, ap}
use Rattle.std.specs.Prelude.{slice_get}
use Rattle.ref_agents.specs.Agents.{values_of}
use Rattle.ref_agents.specs.declared.agents.Agent.{Agent}
use Rattle.ref_log.specs.Guards.{rule_at}
use Rattle.ref_audit.proofs.OwnFacts.{all_here, all_past}
use Rattle.ref_audit.proofs.own_audit.references.tell_agents.Goals as goal

length_of_values : (agents : List Agent) → length (values_of agents) ≡ length agents
length_of_values [] = refl
length_of_values (agent ∷ agents) = ap (λ n. suc n) (length_of_values agents)

pub loop-g-preserved : goal.loop-g-preserved
loop-g-preserved c = below_more _ _ c.loop-g.invariant c.tell_reference.ensures.fact

pub returns-then-not-tell_reference : goal.returns-then-not-tell_reference
returns-then-not-tell_reference c =
    let world = c.args.world.now in
    let none : is_some (slice_get (values_of world.agents.agents) c.loop-g.g) ≡ false = search rules in
    all_here (values_of world.agents.agents) (rule_at world.agents.guards) c.loop-g.g c.loop-g.invariant none

pub returns : goal.returns
returns c =
    let world = c.args.world.now in
    let count = length_of_values world.agents.agents in
    all_past (values_of world.agents.agents) (rule_at world.agents.guards) c.loop-g.g c.loop-g.invariant (omega (arith, count))
