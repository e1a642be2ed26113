use Rattle.std.proofs.Common.{◌≡◌, ℕ, false, refl, subst, sym}
use Rattle.ref_agents.specs.Agents.{AgentsSeen, carrying}
use Rattle.ref_agents.specs.Carried.{held_by, queue_at}
use Rattle.ref_agents.proofs.Carried.{Stands, carried_down}
use Rattle.ref_agents.proofs.Changed.{and_false, kept_change}
use Rattle.ref_agents.proofs.agents.AgentStore.put_down.Goals as goal

pub invariant_of-self : goal.invariant_of-self
invariant_of-self g c =
    let means = g.M.Meaning.means in
    let accepts = g.M.Meaning.accepts in
    let items = c.self.inside.agents.items in
    let guards = c.self.inside.guards in
    let free : (k : ℕ) → held_by c.args.g (queue_at items k) ≡ 0 = subst (λ (s : AgentsSeen). (k : ℕ) → held_by c.args.g (queue_at s.agents k) ≡ 0) (sym c.self.view_is) c.requires in
    subst (Stands means accepts guards) (sym c.put_down.ensures) (
      kept_change means accepts items guards c.args.g (carrying false)
          (λ x is ok. record { folded = ok.folded; marked = ok.marked; single = ok.single; idle = and_false x.is_out false refl })
          (λ x. refl) c.self.invariant.0,
      carried_down items c.args.g free c.self.invariant.1,
      c.self.invariant.2,
    )
