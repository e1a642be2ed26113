use Rattle.std.proofs.Common.{ap, ◌∙◌, ◌||◌, drop}
use Rattle.ref_log.specs.Replay.{is_protected}
use Rattle.ref_tx.specs.Own.{own_protected}
use Rattle.ref_tx.proofs.Tabled.{protected_is, or_else, or_then}
use Rattle.ref_tx.proofs.tables.Table.is_protected.Goals as goal

pub returns-then-was_protected : goal.returns-then-was_protected
returns-then-was_protected c = λ means began is.
    let all = c.args.dones.now in
    let rest = is_protected (drop c.args.self.now.first all) c.args.r in
    let tested = c.was_protected.ensures ∙ ap own_protected c.get.ensures.value in
    or_then _ rest (is_protected all c.args.r) (ap (λ b. b || rest) tested ∙ protected_is means began all c.args.self.now c.args.r is) c.if-was_protected.true

pub returns-else-was_protected : goal.returns-else-was_protected
returns-else-was_protected c = λ means began is.
    let all = c.args.dones.now in
    let rest = is_protected (drop c.args.self.now.first all) c.args.r in
    let tested = c.was_protected.ensures ∙ ap own_protected c.get.ensures.value in
    c.protects.ensures ∙ ap (λ l. is_protected l c.args.r) c.others.ensures
    ∙ or_else _ rest (is_protected all c.args.r) (ap (λ b. b || rest) tested ∙ protected_is means began all c.args.self.now c.args.r is) c.if-was_protected.false
