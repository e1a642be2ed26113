use Rattle.std.proofs.Common.{◌≡◌, ◌∙◌, Some, ap, is_some, slice_get, refl, subst, sym}
use Rattle.ref_agents.specs.Agents.{AgentsSeen, outed}
use Rattle.ref_agents.specs.declared.agents.Agent.{Agent}
use Rattle.ref_agents.proofs.Carried.{Stands, carried_same}
use Rattle.ref_agents.proofs.Changed.{and_false, kept_change}
use Rattle.ref_agents.proofs.agents.AgentStore.set_out.Goals as goal

pub invariant_of-self : goal.invariant_of-self
invariant_of-self g c =
    let means = g.M.Meaning.means in
    let accepts = g.M.Meaning.accepts in
    let items = c.self.inside.agents.items in
    let guards = c.self.inside.guards in
    let here : (x : Agent) → slice_get items c.args.g ≡ Some x → slice_get c.args.self.now.agents c.args.g ≡ Some x = λ x is. ap (λ (s : AgentsSeen). slice_get s.agents c.args.g) (sym c.self.view_is) ∙ is in
    subst (Stands means accepts guards) (sym c.set_out.ensures) (
      kept_change means accepts items guards c.args.g (outed c.args.is_out)
          (λ x is ok. record {
            folded = ok.folded;
            marked = ok.marked;
            single = and_false c.args.is_out (is_some x.error) (c.requires.fine x (here x is));
            idle = and_false c.args.is_out x.is_carrying (c.requires.idle x (here x is));
          })
          (λ x. refl) c.self.invariant.0,
      carried_same items c.args.g (outed c.args.is_out) (λ x. refl) (λ x. refl) (λ x. refl) c.self.invariant.1,
      c.self.invariant.2,
    )
