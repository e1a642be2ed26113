use Rattle.std.proofs.Common.{refl, subst, sym}
use Rattle.ref_agents.specs.Agents.{moded}
use Rattle.ref_agents.proofs.Carried.{Stands, carried_same}
use Rattle.ref_agents.proofs.Changed.{kept_change}
use Rattle.ref_agents.proofs.agents.AgentStore.set_error_mode.Goals as goal

pub invariant_of-self : goal.invariant_of-self
invariant_of-self g c =
    let means = g.M.Meaning.means in
    let accepts = g.M.Meaning.accepts in
    let items = c.self.inside.agents.items in
    let guards = c.self.inside.guards in
    subst (Stands means accepts guards) (sym c.set_mode.ensures) (
      kept_change means accepts items guards c.args.g (moded c.args.mode)
          (λ x is ok. record { folded = ok.folded; marked = ok.marked; single = ok.single; idle = ok.idle })
          (λ x. refl) c.self.invariant.0,
      carried_same items c.args.g (moded c.args.mode) (λ x. refl) (λ x. refl) (λ x. refl) c.self.invariant.1,
      c.self.invariant.2,
    )
