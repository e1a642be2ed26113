use Rattle.std.proofs.Common.{◌≡◌, Bool, List, None, Option, map, ap, sym, ◌∙◌, refl, option_copied}
use Rattle.ref_agents.specs.Account.{AccountSeen}
use Rattle.ref_agents.specs.Agents.{account_at}
use Rattle.ref_agents.specs.declared.accounts.Handled.{Handled}
use Rattle.ref_value.specs.Edn.{Edn}
use Rattle.ref_fun.specs.declared.actions.Action.{Action}
use Rattle.ref_fun.specs.declared.rules.Rule.{Rule}
use Rattle.ref_log.specs.declared.notices.Who.TheVariants.{Agent}
use Rattle.ref_world.specs.References.{value_at}
use Rattle.ref_audit.specs.OwnDump.{agent_seen}
use Rattle.ref_verdict.specs.declared.reading.dumps.KeptAgent.{KeptAgent}
use Rattle.ref_audit.proofs.Left.{one_more}
use Rattle.ref_audit.proofs.Numbered.{account_within, agent_left, agents_all, has_state}
use Rattle.ref_audit.proofs.own_audit.seen.agents_seen.Goals as goal

abbrev parts : AccountSeen → Edn → Bool → Option Rule → KeptAgent
parts account state failed rule = record {
  start = account.start;
  handled = account.handled;
  queue = map (λ q. q.action) account.queue;
  value = state;
  failed = failed;
  rule = rule;
}

same_parts : (account : AccountSeen) (start state state' : Edn) (handled : List Handled) (queue : List Action) (failed : Bool) (rule rule' : Option Rule)
    → start ≡ account.start → handled ≡ account.handled → queue ≡ map (λ q. q.action) account.queue → state' ≡ state → rule' ≡ rule
    → record { start = start; handled = handled; queue = queue; value = state'; failed = failed; rule = rule' } ≡ parts account state failed rule
same_parts account start state state' handled queue failed rule rule' p q r s t = rw (p, q, r, s, t) refl

pub returns-in_default : goal.returns-in_default
returns-in_default c =
    let store = c.args.world.now.agents in
    let none : None ≡ account_at store.agents c.loop-g.g = ap option_copied (sym c.in_default.is) ∙ c.account.ensures.account in
    let all = agents_all (agent_seen store.guards) store.agents c.loop-g.g c.loop-g.all.items none c.loop-g.invariant.left in
    rw all at c.of.ensures.value

pub unreachable-requires : goal.unreachable-requires
unreachable-requires c =
    let none : None ≡ value_at c.args.world.now (Agent c.loop-g.g) = ap option_copied (sym c.in_default-value_of.is) ∙ c.value_of.ensures.value in
    has_state c.args.world.now c.loop-g.g c.in-Some.account.now c.in-Some.ensures.account none

pub loop-g-preserved : goal.loop-g-preserved
loop-g-preserved c =
    let left = agent_left parts c.args.world.now c.loop-g.g c.in-Some.account.now c.in-Some-value_of.state.now _ _ _
    c.in-Some.ensures.account c.in-Some-value_of.ensures.value c.error_of.ensures c.is_some.ensures c.rule_of.ensures.rule in
    let start = c.in_ok-share.ensures ∙ c.start.ensures in
    let handled = c.in_ok-share_handled.ensures ∙ c.handled.ensures in
    let made = same_parts c.in-Some.account.now _ c.in-Some-value_of.state.now _ _ _ c.is_some.result _ _ start handled c.in_ok-share_waiting.ensures c.in_ok-share-2.ensures c.in_ok-share_lent_rule.ensures in
    record {
      left = one_more _ _ _ _ _ _ _ c.loop-g.invariant.left left made c.in_ok-push.ensures.items;
      within = account_within c.args.world.now.agents.agents c.loop-g.g c.in-Some.account.now c.in-Some.ensures.account;
    }
