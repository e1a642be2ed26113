use Rattle.std.proofs.Common.{ap, ◌∙◌, ◌||◌, drop}
use Rattle.ref_tx.specs.Inner.{is_commuted}
use Rattle.ref_tx.specs.Own.{own_commuted}
use Rattle.ref_tx.proofs.Tabled.{commuted_is, or_else, or_then}
use Rattle.ref_tx.proofs.tables.Table.is_commuted.Goals as goal

pub returns-then-was_commuted : goal.returns-then-was_commuted
returns-then-was_commuted c = λ means began is.
    let all = c.args.dones.now in
    let rest = is_commuted (drop c.args.self.now.first all) c.args.r in
    let tested = c.was_commuted.ensures ∙ ap own_commuted c.get.ensures.value in
    or_then _ rest (is_commuted all c.args.r) (ap (λ b. b || rest) tested ∙ commuted_is means began all c.args.self.now c.args.r is) c.if-was_commuted.true

pub returns-else-was_commuted : goal.returns-else-was_commuted
returns-else-was_commuted c = λ means began is.
    let all = c.args.dones.now in
    let rest = is_commuted (drop c.args.self.now.first all) c.args.r in
    let tested = c.was_commuted.ensures ∙ ap own_commuted c.get.ensures.value in
    c.commutes.ensures ∙ ap (λ l. is_commuted l c.args.r) c.others.ensures
    ∙ or_else _ rest (is_commuted all c.args.r) (ap (λ b. b || rest) tested ∙ commuted_is means began all c.args.self.now c.args.r is) c.if-was_commuted.false
