use Rattle.std.proofs.Common.{ap, ◌∙◌, option_copied}
use Rattle.ref_tx.proofs.Tabled.{last_else, last_then}
use Rattle.ref_tx.proofs.tables.last_on.Goals.{then-done-r, else-done-r}
use Rattle.ref_tx.proofs.tables.last_on.Goals as goal

pub loop-done-preserved : goal.loop-done-preserved
loop-done-preserved c = elim c.if-done-r.branch [
  | then-done-r w ↦ ap option_copied w.last-is ∙ last_then c.args.r c.args.dones.now c.loop-done.done-index c.done-item.result c.loop-done-test.true c.done-item.is w.if-done-r.true
  | else-done-r w ↦ ap option_copied w.last-is ∙ c.loop-done.invariant ∙ last_else c.args.r c.args.dones.now c.loop-done.done-index c.done-item.result c.loop-done-test.true c.done-item.is w.if-done-r.false
]
