use Rattle.std.proofs.Common.{◌≡◌, Some, refl, slice_get, sym}
use Rattle.std.specs.BTreeSet.{keys}
use Rattle.ref_agents.specs.Agents.{moded}
use Rattle.ref_agents.proofs.Changed.{there}
use Rattle.ref_agents.proofs.Index.{heads_kept, marked_same}
use Rattle.ref_agents.proofs.indexed.IndexedAgents.set_mode.Goals as goal

pub invariant_of-self-2 : goal.invariant_of-self-2
invariant_of-self-2 c =
    let items = c.self.inside.agents.items in
    let agent = c.in-Some.agent.now in
    let is : slice_get items c.args.g ≡ Some agent = there items items c.args.g agent refl c.in-Some.ensures.item.3.0 c.in-Some.ensures.value in
    record {
      marked = marked_same items (keys c.self.inside.unreleased) c.self.inside.ready c.args.g agent (moded c.args.mode agent) is refl c.self.invariant.marked;
      heads = heads_kept items c.self.inside.heads c.args.g agent (moded c.args.mode agent) is (λ point first. first) c.self.invariant.heads;
    }

pub returns : goal.returns
returns c =
    let items = c.self.inside.agents.items in
    let agent = c.in-Some.agent.now in
    let is : slice_get items c.args.g ≡ Some agent = there items items c.args.g agent refl c.in-Some.ensures.item.3.0 c.in-Some.ensures.value in
    rw (sym c.self.view_is, is) refl
