use Rattle.std.proofs.Common.{◌≡◌, ◌∙◌, Some, true, ap, refl, slice_get, subst, sym}
use Rattle.std.specs.BTreeSet.{keys}
use Rattle.ref_agents.specs.Account.{AccountSeen, folded}
use Rattle.ref_agents.specs.Agents.{can_fold_at, is_ready_if_here}
use Rattle.ref_agents.specs.Indexed.{IndexedSeen, is_headed}
use Rattle.ref_agents.specs.declared.agents.Agent.{Agent}
use Rattle.ref_agents.proofs.Changed.{there}
use Rattle.ref_agents.proofs.Folded.{folding_is, ready_kept}
use Rattle.ref_agents.proofs.Index.{heads_kept, marked_same}
use Rattle.ref_agents.proofs.indexed.IndexedAgents.fold.Goals as goal

pub invariant_of-self-2 : goal.invariant_of-self-2
invariant_of-self-2 c =
    let items = c.self.inside.agents.items in
    let unreleased = keys c.self.inside.unreleased in
    let agent = c.in-Some.agent.now in
    let is : slice_get items c.args.g ≡ Some agent = there items items c.args.g agent refl c.in-Some.ensures.item.3.0 c.in-Some.ensures.value in
    let new : Agent = record agent { account = c.fold.new.self } in
    let account : c.fold.new.self ≡ folded agent.account agent.value = c.fold.ensures ∙ ap (folded agent.account) c.in_ok-start.ensures in
    record {
      marked = marked_same items unreleased c.self.inside.ready c.args.g agent new is (ap (λ (a : AccountSeen). is_ready_if_here unreleased (Some (record agent { account = a }))) account ∙ ready_kept unreleased agent) c.self.invariant.marked;
      heads = heads_kept items c.self.inside.heads c.args.g agent new is (λ point first. subst (λ (a : AccountSeen). is_headed point (Some (record agent { account = a })) ≡ true) account first) c.self.invariant.heads;
    }

pub returns-clause-ok : goal.returns-clause-ok
returns-clause-ok c =
    let items = c.self.inside.agents.items in
    let agent = c.in-Some.agent.now in
    let is : slice_get items c.args.g ≡ Some agent = there items items c.args.g agent refl c.in-Some.ensures.item.3.0 c.in-Some.ensures.value in
    let account : c.fold.new.self ≡ folded agent.account agent.value = c.fold.ensures ∙ ap (folded agent.account) c.in_ok-start.ensures in
    let can : can_fold_at items c.args.g ≡ true = ap (λ (s : IndexedSeen). can_fold_at s.items c.args.g) c.self.view_is ∙ c.requires in
    rw (sym c.self.view_is, is, folding_is items c.args.g agent is can, account) refl
