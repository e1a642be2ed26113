use Rattle.std.proofs.Common.{◌∙◌, ◌≤◌, take, length, arith, ap, sym, refl}
use Rattle.std.proofs.lemmas.List.{take_all}
use Rattle.ref_agents.specs.Agents.{with_each, with_send, without_each}
use Rattle.ref_agents.specs.Indexed.{with_items}
use Rattle.ref_agents.proofs.SentBack.{each_next, each_undone, on_err, on_ok}
use Rattle.ref_agents.proofs.indexed.IndexedAgents.queue_all.Goals as goal

pub loop-i-init : goal.loop-i-init
loop-i-init g c = refl

pub returns-then-is_err-clause-err : goal.returns-then-is_err-clause-err
returns-then-is_err-clause-err g c =
    let old = c.args.self.now in
    let sends = c.args.sends.now in
    let so_far = take c.loop-i.i sends in
    let same = on_err c.queue_one.result _ c.queue_one.ensures.err (sym c.is_err.ensures.value ∙ c.if-is_err.true) ∙ c.loop-i.invariant in
    c.take_back.ensures
    ∙ ap (λ s. with_items s (without_each g.T.ToAgent.to so_far s.items)) same
    ∙ ap (λ l. with_items old l) (each_undone g.T.ToAgent.to g.T.ToAgent.of c.args.by so_far old.items)

pub loop-i-preserved : goal.loop-i-preserved
loop-i-preserved g c =
    let old = c.args.self.now in
    let send = c.index-sends-i.result in
    on_ok c.queue_one.result _ c.queue_one.ensures.ok (sym c.is_err.ensures.value ∙ c.if-is_err.false)
    ∙ ap (λ s. with_items s (with_send s.items (g.T.ToAgent.to send) (record { action = g.T.ToAgent.of send; by = c.args.by }))) c.loop-i.invariant
    ∙ ap (λ l. with_items old l) (sym (each_next g.T.ToAgent.to g.T.ToAgent.of c.args.by c.args.sends.now c.loop-i.i send old.items c.loop-i-test.true c.index-sends-i.is))

pub returns-clause-ok : goal.returns-clause-ok
returns-clause-ok g c =
    let old = c.args.self.now in
    let sends = c.args.sends.now in
    let all : length sends ≤ c.loop-i.i = omega (arith, c.loop-i-test.false) in
    c.loop-i.invariant ∙ ap (λ l. with_items old (with_each g.T.ToAgent.to g.T.ToAgent.of c.args.by l old.items)) (take_all c.loop-i.i sends all)
