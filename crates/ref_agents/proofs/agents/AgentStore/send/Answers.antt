use Rattle.std.proofs.Common.{refl, subst, sym}
use Rattle.ref_agents.specs.Agents.{outside, queuing}
use Rattle.ref_agents.proofs.Carried.{Stands, carried_send}
use Rattle.ref_agents.proofs.Changed.{kept_change}
use Rattle.ref_agents.proofs.agents.AgentStore.send.Goals as goal

pub invariant_of-self-2 : goal.invariant_of-self-2
invariant_of-self-2 g c =
    let means = g.M.Meaning.means in
    let accepts = g.M.Meaning.accepts in
    let items = c.self.inside.agents.items in
    let guards = c.self.inside.guards in
    subst (Stands means accepts guards) (sym c.in_ok-queue.ensures.ok) (
      kept_change means accepts items guards c.args.g (queuing (outside c.args.action))
          (λ x is ok. record { folded = ok.folded; marked = ok.marked; single = ok.single; idle = ok.idle })
          (λ x. refl) c.self.invariant.0,
      carried_send items c.args.g (outside c.args.action) (λ h. refl) c.self.invariant.1,
      c.self.invariant.2,
    )
