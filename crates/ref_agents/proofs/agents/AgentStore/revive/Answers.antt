use Rattle.std.proofs.Common.{◌≡◌, slice_set, is_some, subst, sym, true}
use Rattle.ref_log.specs.Guards.{AreAccepted}
use Rattle.ref_agents.specs.Agents.{AgentsSeen, change_agent, error_at, revived, values_of}
use Rattle.ref_agents.specs.Indexed.{with_items}
use Rattle.ref_agents.proofs.Carried.{Stands, carried_revived}
use Rattle.ref_agents.proofs.Changed.{store_restarted}
use Rattle.ref_agents.proofs.SentBack.{on_either}
use Rattle.ref_agents.proofs.agents.AgentStore.revive.Goals as goal

pub invariant_of-self : goal.invariant_of-self
invariant_of-self g c =
    let means = g.M.Meaning.means in
    let accepts = g.M.Meaning.accepts in
    let items = c.self.inside.agents.items in
    let guards = c.self.inside.guards in
    let n = c.args.g in
    let state = c.args.state in
    let accepted : AreAccepted accepts guards (slice_set (values_of items) n state) = subst (λ (s : AgentsSeen). AreAccepted accepts s.guards (slice_set (values_of s.agents) n state)) (sym c.self.view_is) c.requires.accepted in
    let failed : is_some (error_at items n) ≡ true = subst (λ (s : AgentsSeen). is_some (error_at s.agents n) ≡ true) (sym c.self.view_is) c.requires.failed in
    on_either c.restart.result (Stands means accepts guards) c.restart.new.self (with_items c.self.inside.agents (change_agent items n (revived state c.args.clear))) c.self.inside.agents c.restart.ensures.ok c.restart.ensures.err (
      store_restarted means accepts items guards n state c.args.clear accepted c.self.invariant.0,
      carried_revived items n state c.args.clear failed c.self.invariant.1,
      c.self.invariant.2,
    ) c.self.invariant
