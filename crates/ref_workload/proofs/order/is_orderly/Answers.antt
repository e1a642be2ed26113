use Rattle.std.proofs.Common.{◌≡◌, length, refl, sym, ap, ◌∙◌, arith}
use Rattle.ref_workload.specs.Orderly.{base_declared}
use Rattle.ref_workload.proofs.Marking.{not_done, not_orderly, orderly}
use Rattle.ref_workload.proofs.order.is_orderly.Goals as goal

pub returns-clause-yes : goal.returns-clause-yes
returns-clause-yes c = λ all.
    let plan = c.args.plan.now in
    let world = c.args.world.now in
    let declared : c.base.result.now ≡ base_declared plan.refs plan.atoms =
    c.if-not-is_base.ensures.yes refl ∙ (ap (λ refs. base_declared refs c.start.result.now.atoms.items) c.start.ensures.refs ∙ ap (base_declared plan.refs) c.start.ensures.atoms) in
    let many : length c.start-2.result.now.agents.items ≡ length plan.agents = ap length c.start-2.ensures.agents in
    let agents : length world.agents.agents ≡ length plan.agents = omega (arith, c.agent_count.ensures.value, c.len.ensures, c.start-2.result.now.agents.ok, many) in
    orderly plan world c.args.refused.now c.workers-workers.result.now c.log.result.now _ _ _ c.workers-workers.ensures c.log.ensures.log
    c.in_ok-board.ensures (sym c.base.ensures.base ∙ declared) agents c.requires
    (λ m. c.if-not-mark_refused.ensures.yes _ m refl) (λ m. c.if-not-mark_entries.ensures.yes _ m refl) (c.is_done.ensures.yes all)

pub returns-then-not-mark_entries-clause-no : goal.returns-then-not-mark_entries-clause-no
returns-then-not-mark_entries-clause-no c = λ no.
    not_orderly c.args.plan.now c.args.world.now c.args.refused.now c.workers-workers.result.now c.log.result.now _ _ c.workers-workers.ensures c.log.ensures.log
    c.in_ok-board.ensures (λ m. c.if-not-mark_refused.ensures.yes _ m refl)
    (λ m order entries whole. c.if-not-mark_entries.ensures.no c.args.refused.now c.args.world.now.base.point m refl order entries)

pub returns-clause-no : goal.returns-clause-no
returns-clause-no c = λ no.
    not_orderly c.args.plan.now c.args.world.now c.args.refused.now c.workers-workers.result.now c.log.result.now _ _ c.workers-workers.ensures c.log.ensures.log
    c.in_ok-board.ensures (λ m. c.if-not-mark_refused.ensures.yes _ m refl)
    (not_done c.workers-workers.result.now c.args.refused.now c.log.result.now _ _ c.args.world.now.base.point
    (λ m. c.if-not-mark_entries.ensures.yes _ m refl) (c.is_done.ensures.no no))
