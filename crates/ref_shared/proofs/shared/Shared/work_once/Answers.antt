use Rattle.std.proofs.Common.{rules}
use Rattle.ref_shared.proofs.Ended.{of_action}
use Rattle.ref_shared.proofs.shared.Shared.work_once.Goals as goal

pub returns-after-is_carrying-clause-told : goal.returns-after-is_carrying-clause-told
returns-after-is_carrying-clause-told g c = (
  c.in-Ok-finished.finished,
  c.tell_end.ensures,
  of_action g.M.Meaning.means g.M.Meaning.accepts c.deref_mut.result.now.booked.world.agents c.in-Ok-run.ran c.agent-agent.result c.in-Ok-finished.finished
      (search rules)
      (search rules)
      (rw c.in-Ok-finished.is at c.finish-finished.ensures.ok)
      (rw c.in-Ok-finished.is at c.finish-finished.ensures.answer),
)
