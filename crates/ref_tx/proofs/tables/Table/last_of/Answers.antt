use Rattle.std.proofs.Common.{ap, ◌∙◌, slice_get}
use Rattle.std.specs.BTreeMap.{get}
use Rattle.std.specs.Option.{option_or}
use Rattle.std.specs.Ordering.{nat_cmp}
use Rattle.ref_tx.specs.Own.{last_on, own_value}
use Rattle.ref_tx.proofs.Tabled.{last_is}
use Rattle.ref_tx.proofs.tables.Table.last_of.Goals as goal

pub returns-in-Some : goal.returns-in-Some
returns-in-Some c = λ means began are is.
    ap (λ o. option_or o (own_value (get nat_cmp c.args.self.now.own c.args.r) (slice_get began c.args.r))) (c.in-Some.ensures ∙ ap (last_on c.args.r) c.others.ensures)
    ∙ last_is means began c.args.dones.now c.args.self.now c.args.r are is

pub returns-in-Some-get : goal.returns-in-Some-get
returns-in-Some-get c = λ means began are is.
    ap (λ o. own_value o (slice_get began c.args.r)) c.in-Some-get.ensures.value
    ∙ ap (λ o. option_or o (own_value (get nat_cmp c.args.self.now.own c.args.r) (slice_get began c.args.r))) (c.in-None.ensures ∙ ap (last_on c.args.r) c.others.ensures)
    ∙ last_is means began c.args.dones.now c.args.self.now c.args.r are is

pub returns-in-None-get : goal.returns-in-None-get
returns-in-None-get c = λ means began are is.
    ap (λ o. own_value o (slice_get began c.args.r)) c.in-None-get.ensures.value
    ∙ ap (λ o. option_or o (own_value (get nat_cmp c.args.self.now.own c.args.r) (slice_get began c.args.r))) (c.in-None.ensures ∙ ap (last_on c.args.r) c.others.ensures)
    ∙ last_is means began c.args.dones.now c.args.self.now c.args.r are is
