use Rattle.std.proofs.Common.{◌≡◌, None, ap, sym, ◌∙◌, option_copied}
use Rattle.ref_agents.specs.Agents.{account_at}
use Rattle.ref_audit.specs.Dumped.{agent_form, agent_parts}
use Rattle.ref_log.specs.declared.notices.Who.TheVariants.{Agent}
use Rattle.ref_world.specs.References.{value_at}
use Rattle.std.proofs.lemmas.Result.{err_from_is_err_and}
use Rattle.ref_audit.proofs.Left.{fault_of_next, one_more}
use Rattle.ref_audit.proofs.Numbered.{account_within, agent_left, agents_all, has_state}
use Rattle.ref_audit.proofs.dumping.worlds.agents_now.Goals as goal

pub returns-in_default-clause-made : goal.returns-in_default-clause-made
returns-in_default-clause-made c =
    let store = c.args.world.now.agents in
    let none : None ≡ account_at store.agents c.loop-g.g = ap option_copied (sym c.in_default.is) ∙ c.account.ensures.account in
    let all = agents_all (agent_form store.guards) store.agents c.loop-g.g c.loop-g.forms.items none c.loop-g.invariant.left in
    rw all at c.vector_of.ensures.made

pub returns-in_default-clause-fault : goal.returns-in_default-clause-fault
returns-in_default-clause-fault c =
    let store = c.args.world.now.agents in
    let none : None ≡ account_at store.agents c.loop-g.g = ap option_copied (sym c.in_default.is) ∙ c.account.ensures.account in
    let all = agents_all (agent_form store.guards) store.agents c.loop-g.g c.loop-g.forms.items none c.loop-g.invariant.left in
    rw all at c.vector_of.ensures.fault

pub unreachable-requires : goal.unreachable-requires
unreachable-requires c =
    let none : None ≡ value_at c.args.world.now (Agent c.loop-g.g) = ap option_copied (sym c.in_default-value_of.is) ∙ c.value_of.ensures.value in
    has_state c.args.world.now c.loop-g.g c.in-Some.account.now c.in-Some.ensures.account none

pub returns-in_err-agent-clause-fault : goal.returns-in_err-agent-clause-fault
returns-in_err-agent-clause-fault c =
    let p = err_from_is_err_and c.from_residual.result c.from_residual.ensures.1 in
    let left = agent_left agent_parts c.args.world.now c.loop-g.g c.in-Some.account.now c.in-Some-value_of.state.now _ _ _
    c.in-Some.ensures.account c.in-Some-value_of.ensures.value c.error_of.ensures c.is_some-failed.ensures c.rule_of.ensures.rule in
    rw (p.1, p.2) (fault_of_next _ _ _ _ _ _ c.loop-g.invariant.left left c.in_err-agent.ensures.fault)

pub loop-g-preserved : goal.loop-g-preserved
loop-g-preserved c =
    let left = agent_left agent_parts c.args.world.now c.loop-g.g c.in-Some.account.now c.in-Some-value_of.state.now _ _ _
    c.in-Some.ensures.account c.in-Some-value_of.ensures.value c.error_of.ensures c.is_some-failed.ensures c.rule_of.ensures.rule in
    record {
      left = one_more _ _ _ _ _ _ _ c.loop-g.invariant.left left c.in_ok-agent.ensures.made c.in_ok-push.ensures.items;
      within = account_within c.args.world.now.agents.agents c.loop-g.g c.in-Some.account.now c.in-Some.ensures.account;
    }
