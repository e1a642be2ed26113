use Rattle.std.proofs.Common.{refl, subst, sym}
use Rattle.ref_agents.specs.Agents.{releasing}
use Rattle.ref_agents.proofs.Carried.{Stands, carried_released}
use Rattle.ref_agents.proofs.Changed.{kept_change}
use Rattle.ref_agents.proofs.agents.AgentStore.release_to.Goals as goal

pub invariant_of-self : goal.invariant_of-self
invariant_of-self g c =
    let means = g.M.Meaning.means in
    let accepts = g.M.Meaning.accepts in
    let items = c.self.inside.agents.items in
    let guards = c.self.inside.guards in
    subst (Stands means accepts guards) (sym c.release_to.ensures) (
      kept_change means accepts items guards c.args.h (releasing c.args.g)
          (λ x is ok. record { folded = ok.folded; marked = ok.marked; single = ok.single; idle = ok.idle })
          (λ x. refl) c.self.invariant.0,
      carried_released items c.args.h c.args.g c.self.invariant.1,
      c.self.invariant.2,
    )
