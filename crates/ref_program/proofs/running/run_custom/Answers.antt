use Rattle.ref_program.proofs.Sums.{added_adds_up, commits_add_up, each_total, taken_adds_up}
use Rattle.ref_program.proofs.running.run_custom.Goals as goal

pub returns-in-Ok-clause-commits : goal.returns-in-Ok-clause-commits
returns-in-Ok-clause-commits g c = each_total _ _ _ _ _ commits_add_up c.in-Ok.ensures.done c.in-Ok.ensures.sums.0

pub returns-in-Ok-clause-added : goal.returns-in-Ok-clause-added
returns-in-Ok-clause-added g c = each_total _ _ _ _ _ added_adds_up c.in-Ok.ensures.done c.in-Ok.ensures.sums.1

pub returns-in-Ok-clause-taken : goal.returns-in-Ok-clause-taken
returns-in-Ok-clause-taken g c = each_total _ _ _ _ _ taken_adds_up c.in-Ok.ensures.done c.in-Ok.ensures.sums.2
