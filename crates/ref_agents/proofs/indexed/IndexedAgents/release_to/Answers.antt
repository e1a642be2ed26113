use Rattle.std.proofs.Common.{◌≡◌, ℕ, Some, refl, slice_get, subst, sym, true}
use Rattle.std.specs.BTreeSet.{keys}
use Rattle.ref_agents.specs.Account.{AccountSeen}
use Rattle.ref_agents.specs.Agents.{is_ready_if_here}
use Rattle.ref_agents.specs.Indexed.{HaveHeads}
use Rattle.ref_agents.specs.Marks.{is_set}
use Rattle.ref_agents.specs.declared.agents.Agent.{Agent}
use Rattle.ref_agents.proofs.Changed.{there}
use Rattle.ref_agents.proofs.Index.{head_released, headed, heads_kept, others_marked}
use Rattle.ref_agents.proofs.indexed.IndexedAgents.release_to.Goals as goal

pub index-requires-clause-heads : goal.index-requires-clause-heads
index-requires-clause-heads c =
    let items = c.self.inside.agents.items in
    let agent = c.in-Some.agent.now in
    let is : slice_get items c.args.h ≡ Some agent = there items items c.args.h agent refl c.in-Some.ensures.item.3.0 c.in-Some.ensures.value in
    let new : Agent = record agent { account = c.release.new.self } in
    subst (λ l. HaveHeads l c.self.inside.heads) (sym c.deref.ensures.value)
    (heads_kept items c.self.inside.heads c.args.h agent new is (λ point first. head_released point c.args.g agent.account.queue (subst (λ (a : AccountSeen). headed point a.queue ≡ true) c.release.ensures first)) c.self.invariant.heads)

pub index-requires-clause-others : goal.index-requires-clause-others
index-requires-clause-others c =
    let items = c.self.inside.agents.items in
    let unreleased = keys c.self.inside.unreleased in
    let new : Agent = record c.in-Some.agent.now { account = c.release.new.self } in
    subst (λ l. (n : ℕ) → (n ≡ c.args.h → ⊥) → is_set c.self.inside.ready n ≡ is_ready_if_here unreleased (slice_get l n)) (sym c.deref.ensures.value)
    (others_marked items unreleased c.self.inside.ready c.args.h new c.self.invariant.marked)

pub returns : goal.returns
returns c =
    let items = c.self.inside.agents.items in
    let agent = c.in-Some.agent.now in
    let is : slice_get items c.args.h ≡ Some agent = there items items c.args.h agent refl c.in-Some.ensures.item.3.0 c.in-Some.ensures.value in
    rw (sym c.self.view_is, is, c.release.ensures) refl
