use Rattle.std.proofs.Common.{◌≡◌, ◌∙◌, ap, subst, sym}
use Rattle.std.specs.BTreeSet.{insert_key}
use Rattle.std.specs.Ordering.{nat_cmp}
use Rattle.ref_log.specs.declared.sends.Sent.{Sent}
use Rattle.ref_agents.specs.Agents.{without_each}
use Rattle.ref_agents.specs.Indexed.{IndexedSeen, with_items}
use Rattle.ref_agents.specs.declared.accounts.SentBy.TheVariants.{Commit}
use Rattle.ref_agents.proofs.Carried.{Stands, carried_sends}
use Rattle.ref_agents.proofs.Changed.{kept_each, seen}
use Rattle.ref_agents.proofs.Rising.{insert_rises}
use Rattle.ref_agents.proofs.SentBack.{each_undone, on_err, on_ok}
use Rattle.ref_agents.proofs.agents.AgentStore.send_held.Goals as goal

pub invariant_of-self-then-is_err : goal.invariant_of-self-then-is_err
invariant_of-self-then-is_err g c =
    let inside = c.self.inside.agents in
    let sends = c.args.sends.now in
    let kept = on_err c.hold.result _ c.hold.ensures.err (sym c.is_err.ensures.value ∙ c.if-is_err.true) ∙ c.in_ok-queue_all.ensures.ok in
    let undone : c.take_back.new.self ≡ inside = c.take_back.ensures
    ∙ ap (λ (s : IndexedSeen). with_items s (without_each (λ (x : Sent). x.agent) sends s.items)) kept
    ∙ ap (with_items inside) (each_undone (λ (x : Sent). x.agent) (λ (x : Sent). x.action) (Commit c.args.at) sends inside.items) in
    subst (Stands g.M.Meaning.means g.M.Meaning.accepts c.self.inside.guards) (sym undone) c.self.invariant

pub returns-then-is_err-clause-err : goal.returns-then-is_err-clause-err
returns-then-is_err-clause-err g c =
    let inside = c.self.inside.agents in
    let sends = c.args.sends.now in
    let kept = on_err c.hold.result _ c.hold.ensures.err (sym c.is_err.ensures.value ∙ c.if-is_err.true) ∙ c.in_ok-queue_all.ensures.ok in
    let undone : c.take_back.new.self ≡ inside = c.take_back.ensures
    ∙ ap (λ (s : IndexedSeen). with_items s (without_each (λ (x : Sent). x.agent) sends s.items)) kept
    ∙ ap (with_items inside) (each_undone (λ (x : Sent). x.agent) (λ (x : Sent). x.action) (Commit c.args.at) sends inside.items) in
    ap (λ (s : IndexedSeen). seen s.items c.self.inside.guards s.unreleased) undone ∙ c.self.view_is

pub invariant_of-self-else-is_err : goal.invariant_of-self-else-is_err
invariant_of-self-else-is_err g c =
    let means = g.M.Meaning.means in
    let accepts = g.M.Meaning.accepts in
    let items = c.self.inside.agents.items in
    let guards = c.self.inside.guards in
    let inside = c.self.inside.agents in
    let sends = c.args.sends.now in
    let at = c.args.at in
    let held = on_ok c.hold.result _ c.hold.ensures.ok (sym c.is_err.ensures.value ∙ c.if-is_err.false)
    ∙ ap (λ (s : IndexedSeen). record s { unreleased = insert_key nat_cmp s.unreleased at }) c.in_ok-queue_all.ensures.ok in
    subst (Stands means accepts guards) (sym held) (
      kept_each (λ (x : Sent). x.agent) (λ (x : Sent). x.action) (Commit at) means accepts guards sends items c.self.invariant.0,
      carried_sends (λ (x : Sent). x.agent) (λ (x : Sent). x.action) at sends items c.self.invariant.1,
      insert_rises inside.unreleased at c.self.invariant.2,
    )
