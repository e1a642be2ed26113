use Rattle.std.proofs.Common.{◌≡◌, ◌∙◌, ap, refl}
use Rattle.ref_agents.specs.Agents.{AgentsSeen, change_agent, folding, is_ready_at, is_ready_if_here, job_out, out_if_here, values_of}
use Rattle.ref_agents.specs.Carried.{may_hold}
use Rattle.ref_agents.specs.Indexed.{IndexedSeen, with_items}
use Rattle.std.specs.Prelude.{slice_get}
use Rattle.ref_agents.proofs.Carried.{Stands, carried_folded, may_folded}
use Rattle.ref_agents.proofs.Changed.{kept_change, relate_change, values_change}
use Rattle.ref_agents.proofs.Folded.{folding_agent, folding_out, folding_ready, folding_value}
use Rattle.ref_agents.proofs.SentBack.{on_either}
use Rattle.ref_agents.proofs.agents.AgentStore.fold_account.Goals as goal

pub invariant_of-self : goal.invariant_of-self
invariant_of-self g c =
    let means = g.M.Meaning.means in
    let accepts = g.M.Meaning.accepts in
    let items = c.self.inside.agents.items in
    let guards = c.self.inside.guards in
    on_either c.fold.result (Stands means accepts guards) c.fold.new.self (with_items c.self.inside.agents (change_agent items c.args.g folding)) c.self.inside.agents c.fold.ensures.ok c.fold.ensures.err (
      kept_change means accepts items guards c.args.g folding (λ x is ok. folding_agent means x ok) folding_value c.self.invariant.0,
      carried_folded items c.args.g c.self.invariant.1,
      c.self.invariant.2,
    ) c.self.invariant

pub returns-clause-values : goal.returns-clause-values
returns-clause-values g c =
    let items = c.self.inside.agents.items in
    let now = ap (λ (s : AgentsSeen). values_of s.agents) c.self.view_is in
    on_either c.fold.result (λ (s : IndexedSeen). values_of s.items ≡ values_of c.args.self.now.agents) c.fold.new.self (with_items c.self.inside.agents (change_agent items c.args.g folding)) c.self.inside.agents c.fold.ensures.ok c.fold.ensures.err
    (values_change items c.args.g folding folding_value ∙ now) now

pub returns-clause-out : goal.returns-clause-out
returns-clause-out g c h =
    let items = c.self.inside.agents.items in
    let now = ap (λ (s : AgentsSeen). job_out s.agents h) c.self.view_is in
    on_either c.fold.result (λ (s : IndexedSeen). job_out s.items h ≡ job_out c.args.self.now.agents h) c.fold.new.self (with_items c.self.inside.agents (change_agent items c.args.g folding)) c.self.inside.agents c.fold.ensures.ok c.fold.ensures.err
    (relate_change (λ o p. out_if_here h p ≡ out_if_here h o) folding (λ o. refl) (folding_out h) items c.args.g h ∙ now) now

pub returns-clause-ready : goal.returns-clause-ready
returns-clause-ready g c h =
    let items = c.self.inside.agents.items in
    let unreleased = c.self.inside.agents.unreleased in
    let now = ap (λ (s : AgentsSeen). is_ready_at s h) c.self.view_is in
    on_either c.fold.result (λ (s : IndexedSeen). is_ready_if_here s.unreleased (slice_get s.items h) ≡ is_ready_at c.args.self.now h) c.fold.new.self (with_items c.self.inside.agents (change_agent items c.args.g folding)) c.self.inside.agents c.fold.ensures.ok c.fold.ensures.err
    (relate_change (λ o p. is_ready_if_here unreleased p ≡ is_ready_if_here unreleased o) folding (λ o. refl) (folding_ready unreleased) items c.args.g h ∙ now) now

pub returns-clause-carried : goal.returns-clause-carried
returns-clause-carried g c h to =
    let items = c.self.inside.agents.items in
    let now = ap (λ (s : AgentsSeen). may_hold s.agents h to) c.self.view_is in
    on_either c.fold.result (λ (s : IndexedSeen). may_hold s.items h to ≡ may_hold c.args.self.now.agents h to) c.fold.new.self (with_items c.self.inside.agents (change_agent items c.args.g folding)) c.self.inside.agents c.fold.ensures.ok c.fold.ensures.err
    (may_folded items c.args.g h to ∙ now) now
